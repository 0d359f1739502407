-- Where tracks that are not due are skipped, the same pieces are left.
use Rattle.std.proofs.Common.{length, ◌≡◌, ℕ, ◌<◌, true, false, cond, List, [], ◌∷◌, Some, None, refl, sym, ap, subst, ◌∙◌, arith, ne_eqb, slice_get, ◌⊎◌, inl, inr, true≢false}
use Rattle.std.specs.Prelude.{Option, map}
use Rattle.mp4_boxes.proofs.Plain.{get_every, get_map, get_some}
use Rattle.mp4_head.specs.format.Tree.{TrackTree, track_head_of}
use Rattle.mp4_present.specs.format.Denotes.{FileTree}
use Rattle.mp4_present.specs.words.Movies.{MovieSeen}
use Rattle.mp4_present.specs.words.OpenedMovie.{IsOpenedAs}
use Rattle.mp4_present.specs.declared.track_info.TrackInfo.{TrackInfo}
use Rattle.mp4_tables.specs.declared.sample.SampleAt.{SampleAt}
use Rattle.mp4_content.specs.words.Contents.{numbers_of}
use Rattle.mp4_plan.specs.words.DueTracks.{leaf, AreTimes, FindsMore, IsDueAt, Skips}
use Rattle.mp4_plan.specs.words.DueTracks.Skips.{none, one}
use Rattle.mp4_plan.specs.words.PiecesComing.{Coming}
use Rattle.mp4_plan.specs.words.Turns.{turn_end, track_passed, is_over}
use Rattle.mp4_plan.specs.words.Writers.{firsts}
use Rattle.mp4_plan.specs.declared.due_tracks.DueTracks.{DueTracks}
use Rattle.mp4_plan.specs.declared.ends.End.{End}
use Rattle.mp4_plan.specs.declared.ends.End.TheVariants.{Sync, Before}
use Rattle.mp4_plan.specs.declared.schedule.Schedule.{Schedule}
use Rattle.mp4_plan.proofs.DueTurns.{late_over, due_goes, other_keeps, skips_keep}
use Rattle.mp4_plan.proofs.Lefts.{pieces_from, IsTurn}
use Rattle.mp4_plan.proofs.NextSamples.{first_at}
use Rattle.mp4_plan.proofs.TakenFrom.{has_track}
use Rattle.mp4_plan.proofs.TurnTaken.{few_left, tracks_left, turn_skips, turn_tracks}

-- no track of these has a timescale of 0
abbrev pub HaveScales : List TrackInfo → Type 0
HaveScales infos = (k : ℕ) (info : TrackInfo) → slice_get infos k ≡ Some info → 0 < info.timescale

-- none of an opened movie has
pub opened_scales : (file : List ℕ) (m : MovieSeen) (tree : FileTree) → IsOpenedAs file m tree → HaveScales m.tracks
opened_scales file m tree o k info is =
    let r = has_track file m tree k info o is in
    let scales = o.is_sound.timescales in
    subst (λ n. 0 < n) r.facts.left.timescale (get_every (λ (t : TrackTree). 0 < (track_head_of t).media.timescale) tree.movie.tracks k r.t r.is_there scales)

-- The same pieces are left of the same samples.
pub skipped_turns : (file : List ℕ) (infos : List TrackInfo) (d : DueTracks) (s later : Schedule) (lefts : List (List SampleAt)) (comings : List Coming) (first : ℕ) → Skips d s later → IsTurn file infos s lefts comings → s.first ≡ first
    → AreTimes (map numbers_of infos) (firsts lefts) first d → HaveScales infos → IsTurn file infos later lefts comings × (pieces_from s comings ≡ pieces_from later comings)
skipped_turns file infos d s later lefts comings first (none _) h e times scales = (h, refl)
skipped_turns file infos d s later lefts comings first (one _ _ some lt late more) h e times scales =
    let tracks = turn_tracks file infos s lefts comings h in
    let many = (tracks_left file infos lefts comings h.each).0 in
    let at = get_some infos s.track (omega (arith, lt, tracks)) in
    let own = get_some lefts s.track (omega (arith, lt, tracks, many)) in
    let next = slice_get own.0 0 in
    let due = times s.track (numbers_of at.0) next some (get_map numbers_of infos s.track at.0 at.1) (first_at lefts s.track own.0 own.1) in
    let over = late_over s.next first at.0.timescale next (leaf d s.track) (scales s.track at.0 at.1) due late in
    let passes = turn_skips file infos s lefts comings at.0 own.0 h some lt at.1 own.1 (subst (λ n. is_over (Before s.next n at.0.timescale) next ≡ true) (sym e) over) in
    let rest = skipped_turns file infos d (track_passed s None) later lefts comings first more passes.0 ((other_keeps s None some).first ∙ e) times scales in
    (rest.0, passes.1 ∙ rest.1)

-- with the leaves as they are behind the tracks that were skipped
pub turns_skipped : (file : List ℕ) (infos : List TrackInfo) (d : DueTracks) (s later : Schedule) (nexts : List (Option SampleAt)) (lefts : List (List SampleAt)) (comings : List Coming) → Skips d s later → IsTurn file infos s lefts comings → nexts ≡ firsts lefts
    → IsDueAt (map numbers_of infos) nexts later d → HaveScales infos → IsTurn file infos later lefts comings × (pieces_from s comings ≡ pieces_from later comings)
turns_skipped file infos d s later nexts lefts comings skips h shown due scales =
    skipped_turns file infos d s later lefts comings later.first skips h (sym (skips_keep d s later skips).first) (subst (λ xs. AreTimes (map numbers_of infos) xs later.first d) shown due.times) scales

-- A track behind the first whose turn it is has a sample that goes into a piece.
pub due_here : (infos : List TrackInfo) (nexts : List (Option SampleAt)) (s : Schedule) (d : DueTracks) (info : TrackInfo) (next : Option SampleAt) → IsDueAt (map numbers_of infos) nexts s d → HaveScales infos → s.track < s.tracks → slice_get infos s.track ≡ Some info
    → slice_get nexts s.track ≡ Some next → 0 < s.track → is_over (turn_end s info.timescale) next ≡ false
due_here infos nexts s d info next due scales lt is_info is_next some =
    let is : turn_end s info.timescale ≡ Before s.next s.first info.timescale = ap (λ v. cond v (Sync s.from info.timescale) (Before s.next s.first info.timescale)) (ne_eqb s.track 0 (λ z. omega (arith, z, some))) in
    ap (λ e. is_over e next) is ∙ due_goes s.next s.first info.timescale next (leaf d s.track) (scales s.track info is_info) (due.times s.track (numbers_of info) next some (get_map numbers_of infos s.track info is_info) is_next) (due.here some lt)

-- one or the other
pub either : {A B C : Type 0} → A ⊎ B → (A → C) → (B → C) → C
either (inl a) f g = f a
either (inr b) f g = g b

none_there : (end : End) (left : List SampleAt) → length left ≡ 0 → is_over end (slice_get left 0) ≡ true
none_there end [] e = refl
none_there end (s ∷ left) e = absurd (omega (arith, e))

-- Of an opened file no track is due where no sample is left.
pub finds_none : (file : List ℕ) (infos : List TrackInfo) (taken later : Schedule) (lefts : List (List SampleAt)) (comings : List Coming) (nexts : List (Option SampleAt)) (d : DueTracks) → IsTurn file infos taken lefts comings → nexts ≡ firsts lefts → HaveScales infos
    → FindsMore (map numbers_of infos) nexts taken later d → ⊥
finds_none file infos taken later lefts comings nexts d h shown scales f =
    let h_on = (turns_skipped file infos d taken later nexts lefts comings f.skips h shown f.due scales).0 in
    let inside = f.inside in
    let none = f.none_left in
    let count = h_on.left in
    let tracks = turn_tracks file infos later lefts comings h_on in
    let many = (tracks_left file infos lefts comings h_on.each).0 in
    let at = get_some infos later.track (omega (arith, inside, tracks)) in
    let own = get_some lefts later.track (omega (arith, inside, tracks, many)) in
    let few = few_left lefts later.track (length own.0) own.0 own.1 (omega arith) in
    let empty : length own.0 ≡ 0 = omega (arith, few, count, none) in
    let is_next = ap (λ xs. slice_get xs later.track) shown ∙ first_at lefts later.track own.0 own.1 in
    let goes = due_here infos nexts later d at.0 (slice_get own.0 0) f.due scales inside at.1 is_next f.some in
    true≢false (sym (none_there (turn_end later at.0.timescale) own.0 empty) ∙ goes)
