-- A file that is printed: the text of what remains of it, part after part.
use Rattle.std.proofs.Common.{◌≡◌, ℕ, List, [], ◌++◌, refl, sym, ap, ◌∙◌, append_assoc, codes}
use Rattle.std.specs.Prelude.{map, flat_map}
use Rattle.std.proofs.lemmas.List.{append-nil}
use Rattle.mp4_store.specs.words.Device.{TakesPrefix}
use Rattle.mp4_store.proofs.Known.{IsJoining}
use Rattle.mp4_head.specs.format.Head as heads
use Rattle.mp4_head.specs.format.Tree.{head_of}
use Rattle.mp4_head.specs.words.Seen.{head_seen, movie_seen, track_seen, tracks_seen}
use Rattle.mp4_head.specs.declared.heads.MovieHead.{MovieHead}
use Rattle.mp4_head.specs.declared.heads.TrackHead.{TrackHead}
use Rattle.mp4_present.specs.format.Denotes.{FileTree, presentation_of}
use Rattle.mp4_content.specs.format.Remaining.{remaining, remaining_movie}
use Rattle.mp4_content.specs.words.Divided.{remaining_heads}
use Rattle.mp4_content.specs.format.Reduced.{number_heads}
use Rattle.mp4_content.specs.words.Scales.{AreScales}
use Rattle.mp4_content.specs.declared.scales.Scales.{Scales}
use Rattle.mp4_present.specs.words.Carried.{BytesGoOn}
use Rattle.mp4_present.specs.words.Movies.{MovieSeen}
use Rattle.mp4_present.specs.format.Presentation.{Presentation}
use Rattle.mp4_content.specs.format.LeadIns.{words_told}
use Rattle.mp4_answers.specs.words.OpenedTold.{IsOpenedTold}
use Rattle.mp4_answers.proofs.OpenedTold.{left_is, shown_limits, shows_told}
use Rattle.mp4_present.specs.words.HeadsRead.{SaysMovie}
use Rattle.mp4_content.specs.declared.without.Without.{Without}
use Rattle.mp4_answers.specs.declared.selection.Selection.{Selection}
use Rattle.mp4_answers.specs.format.FileTexts.{PrintsText}
use Rattle.mp4_answers.specs.format.Text.{front_lines, movie_lines, text, text_of, track_text}
use Rattle.mp4_answers.specs.words.PrintedTracks.{HeadsRemain}
use Rattle.mp4_answers.proofs.Going.{Going, going_none}
use Rattle.mp4_answers.proofs.TextsGoOn.{text_next, text_fails, texts_not_put, texts_put}
use Rattle.mp4_present.proofs.ToldTrees.{tree_said}

-- some of the first bytes of the text of the file were put; all of them were
abbrev pub FrontPrinted : Selection → List ℕ → (List ℕ → Type 0) → Type 0
FrontPrinted chosen file Took = (bytes : List ℕ) × PrintsText chosen file bytes × TakesPrefix Took bytes

abbrev pub AllPrinted : Selection → List ℕ → (List ℕ → Type 0) → Type 0
AllPrinted chosen file Took = (bytes : List ℕ) × PrintsText chosen file bytes × Took bytes

module _ (chosen : Selection) (file : List ℕ) (m : MovieSeen) (tree : FileTree) (head : MovieHead) (o : IsOpenedTold chosen.track chosen.leaving.lead_ins file m tree) (says : SaysMovie m head) (scales : Scales) (are : AreScales (words_told chosen.leaving) file tree scales) where
  abbrev l : Without
  l = chosen.leaving

  said : head_seen head ≡ head_of tree.movie
  said = (tree_said file m tree head o.opened says).says

  -- those of the tracks remain
  pub heads_remain : (known : List TrackHead) → map track_seen known ≡ number_heads (words_told l) 1 (remaining_heads (words_told l) scales.movie scales.tracks.items (tracks_seen head)) → HeadsRemain (words_told l) file tree scales known
  heads_remain known e = record {
    scales_are = are;
    heads_are = e ∙ ap (λ (h : heads.Head). number_heads (words_told l) 1 (remaining_heads (words_told l) scales.movie scales.tracks.items h.tracks)) said;
  }

  abbrev whole : List ℕ
  whole = text l o.p

  abbrev pub movie_part : List ℕ
  movie_part = movie_lines (remaining_movie (words_told l) scales.movie (movie_seen head))

  abbrev pub tracks_part : List ℕ
  tracks_part = flat_map track_text (remaining (words_told l) (presentation_of file tree)).tracks

  abbrev end : List ℕ
  end = codes "end\n"

  parts : whole ≡ front_lines l ++ (movie_part ++ (tracks_part ++ end))
  parts =
      ap (λ (q : Presentation). front_lines l ++ text_of q) (sym (left_is chosen file m tree o))
      ∙ ap (λ (bs : List ℕ). front_lines l ++ bs) (append_assoc (movie_lines (remaining (words_told l) (presentation_of file tree)).movie) tracks_part end)
      ∙ (λ i. front_lines l ++ (movie_lines (remaining_movie (words_told l) (sym are.movie i) (sym said i).movie) ++ (tracks_part ++ end)))

  prints : PrintsText chosen file whole
  prints = (o.p, shows_told chosen file m tree o, shown_limits chosen file m tree o, refl)

  module _ {Y : Type 0} {takes : Y → Y → List ℕ → Type 0} (joins : IsJoining takes) (a b c d e f : Y) (nothing : takes a a []) (held_b held_c held_d held_e : List ℕ) where
    begun : Going (takes a a) [] [] whole whole
    begun = going_none (takes a a) nothing [] whole

    -- the first lines
    pub first_fails : TakesPrefix (takes a b) (front_lines l) → FrontPrinted chosen file (takes a b)
    first_fails q = (whole, prints, text_fails joins a a b [] [] whole whole begun (front_lines l) (movie_part ++ (tracks_part ++ end)) parts q)

    module _ (p : BytesGoOn (takes a b) [] held_b (front_lines l)) where
      one : Going (takes a b) [] held_b (movie_part ++ (tracks_part ++ end)) whole
      one = text_next joins a a b [] [] whole whole begun held_b (front_lines l) (movie_part ++ (tracks_part ++ end)) parts p

      -- those of the movie
      pub movie_fails : TakesPrefix (takes b c) (held_b ++ movie_part) → FrontPrinted chosen file (takes a c)
      movie_fails q = (whole, prints, text_fails joins a b c [] held_b (movie_part ++ (tracks_part ++ end)) whole one movie_part (tracks_part ++ end) refl q)

      module _ (q : BytesGoOn (takes b c) held_b held_c movie_part) where
        two : Going (takes a c) [] held_c (tracks_part ++ end) whole
        two = text_next joins a b c [] held_b (movie_part ++ (tracks_part ++ end)) whole one held_c movie_part (tracks_part ++ end) refl q

        -- those of the tracks
        pub tracks_fail : TakesPrefix (takes c d) (held_c ++ tracks_part) → FrontPrinted chosen file (takes a d)
        tracks_fail r = (whole, prints, text_fails joins a c d [] held_c (tracks_part ++ end) whole two tracks_part end refl r)

        module _ (r : BytesGoOn (takes c d) held_c held_d tracks_part) where
          three : Going (takes a d) [] held_d end whole
          three = text_next joins a c d [] held_c (tracks_part ++ end) whole two held_d tracks_part end refl r

          -- the last line
          pub last_fails : TakesPrefix (takes d e) (held_d ++ end) → FrontPrinted chosen file (takes a e)
          last_fails s = (whole, prints, text_fails joins a d e [] held_d end whole three end [] (sym (append-nil end)) s)

          module _ (s : BytesGoOn (takes d e) held_d held_e end) where
            four : Going (takes a e) [] held_e [] whole
            four = text_next joins a d e [] held_d end whole three held_e end [] (sym (append-nil end)) s

            -- and what waits then
            pub all_printed : takes e f held_e → AllPrinted chosen file (takes a f)
            all_printed t = (whole, prints, texts_put joins a e f held_e [] whole four refl t)

            pub end_fails : TakesPrefix (takes e f) held_e → FrontPrinted chosen file (takes a f)
            end_fails t = (whole, prints, texts_not_put joins a e f held_e [] whole four refl t)
