-- A job has one text of a file.
use Rattle.std.proofs.Common.{◌≡◌, ℕ, zero, suc, ◌+◌, ◌<◌, ◌≤◌, List, [], ◌∷◌, ◌++◌, length, take, drop, Option, Some, None, Ok, refl, sym, ap, subst, ◌∙◌, arith}
use Rattle.std.specs.Prelude.{Bool, map, true}
use Rattle.std.specs.List.{AllZip, concat, slice_get}
use Rattle.serde_json.specs.Written.{compact_text}
use Rattle.mp4_boxes.specs.format.Box.{Box, Container, Header, header_at, box_container}
use Rattle.mp4_boxes.specs.format.Places.{ruled, containers, at_kind}
use Rattle.mp4_boxes.specs.declared.rule.Rule.{Rule}
use Rattle.mp4_boxes.specs.declared.rule.Rule.TheVariants.{File}
use Rattle.mp4_boxes.proofs.Tiling.{header_is, tiles_one}
use Rattle.mp4_head.specs.format.Tree.{TrackTree, are_distinct, track_head_of}
use Rattle.mp4_head.proofs.Distinct.{distinct_same, map_twice}
use Rattle.mp4_present.specs.format.Denotes.{FileTree, file_parts, presentation_of, track_of}
use Rattle.mp4_present.specs.format.Judge.{judge}
use Rattle.mp4_present.specs.format.Presentation.{Track, Presentation}
use Rattle.mp4_present.proofs.JudgedTrees.{judged_denotes}
use Rattle.mp4_present.proofs.One.{file_tree_one}
use Rattle.mp4_content.specs.format.LeadIns.{left_of}
use Rattle.mp4_plan.specs.format.Normal.{normal}
use Rattle.mp4_plan.proofs.Judged.{judged_one}
use Rattle.mp4_answers.specs.declared.box_names.Name.{Name}
use Rattle.mp4_answers.specs.declared.jobs.BoxForm.{BoxForm}
use Rattle.mp4_answers.specs.format.OneTextLaws.{StripIsOne, ListOfBoxesIsOne, JudgedTextsAreOne}
use Rattle.mp4_answers.specs.declared.jobs.Form.{Form}
use Rattle.mp4_answers.specs.format.FileTexts.{IsTreeWith, sample_spots}
use Rattle.mp4_answers.specs.format.Strips.{is_top, freed, Strips, ends, frees, keeps, enters}
use Rattle.mp4_answers.specs.format.Text.{text}
use Rattle.mp4_answers.specs.format.BoxTexts.{AreBoxLines, box_line}
use Rattle.mp4_answers.specs.format.Texts.{descends, line_feed, show_value, sample_listing, sample_data, IsPart}
use Rattle.mp4_answers.proofs.Lengths.{distinct_ids, got_in, track_is_one}
use Rattle.mp4_answers.proofs.StripCopies.{next_freed, next_kept, next_entered, nothing_stands}
use Rattle.mp4_answers.proofs.Alone.{shows_one}

-- ---- copies in which boxes are free space

-- where a header is read there is something
pub some_there : (is_open : Bool) (bytes : List ℕ) (h : Header) → header_at is_open bytes ≡ Ok h → 0 < length bytes
some_there is_open bytes h e =
    let r = header_is is_open bytes h e in
    let long : 8 ≤ h.length = r.length in
    let from : h.length ≤ h.size = r.inside in
    let to : h.size ≤ length bytes = r.fits in
    omega (arith, long, from, to)

pub copy_is_one : (names : List Name) (rule : Rule) (bytes text other : List ℕ) → Strips names rule bytes text → Strips names rule bytes other → text ≡ other
copy_is_one names rule bytes text other (ends _ _ _ b t) u = t ∙ sym (nothing_stands names rule bytes other b u)
copy_is_one names rule bytes text other (frees _ _ _ h rest e n s t) u =
    let next = next_freed names rule bytes other h (some_there (is_top rule) bytes h e) e n u in
    t ∙ ap (λ (xs : List ℕ). freed (take h.size bytes) ++ xs) (copy_is_one names rule (drop h.size bytes) rest next.0 s next.1) ∙ sym next.2
copy_is_one names rule bytes text other (keeps _ _ _ h rest e n i s t) u =
    let next = next_kept names rule bytes other h (some_there (is_top rule) bytes h e) e n i u in
    t ∙ ap (λ (xs : List ℕ). take h.size bytes ++ xs) (copy_is_one names rule (drop h.size bytes) rest next.0 s next.1) ∙ sym next.2
copy_is_one names rule bytes text other (enters _ _ _ h inner middle rest e n i w s t) u =
    let next = next_entered names rule bytes other h inner (some_there (is_top rule) bytes h e) e n i u in
    let held = copy_is_one names inner _ middle next.0 w next.2 in
    let more = copy_is_one names rule (drop h.size bytes) rest next.1 s next.3 in
    t ∙ (λ k. take h.length bytes ++ (held k ++ more k)) ∙ sym next.4

pub strip_is_one : StripIsOne
strip_is_one names file text other s u = copy_is_one names File file text other s u

-- ---- lists of boxes

-- what is one for each is one for all
zip_one : {A B : Type 0} (P : A → B → Type 0) → ((a : A) (x y : B) → P a x → P a y → x ≡ y) → (zs : List A) (xs ys : List B) → AllZip P zs xs → AllZip P zs ys → xs ≡ ys
zip_one P one [] [] [] z w = refl
zip_one P one [] [] (y ∷ ys) z w = absurd w
zip_one P one [] (x ∷ xs) ys z w = absurd z
zip_one P one (a ∷ zs) [] ys z w = absurd z
zip_one P one (a ∷ zs) (x ∷ xs) [] z w = absurd w
zip_one P one (a ∷ zs) (x ∷ xs) (y ∷ ys) z w = λ j. one a x y z.0 w.0 j ∷ zip_one P one zs xs ys z.1 w.1 j

part_one : (form : BoxForm) (n depth : ℕ) (b : Box) (line part other : List ℕ) (o : Option Rule)
    → ((r : Rule) (text more : List ℕ) → AreBoxLines form n (depth + 1) r (box_container b) text → AreBoxLines form n (depth + 1) r (box_container b) more → text ≡ more)
    → IsPart (AreBoxLines form n (depth + 1)) line o b part → IsPart (AreBoxLines form n (depth + 1)) line o b other → part ≡ other
part_one form n depth b line part other None one p q = p ∙ sym q
part_one form n depth b line part other (Some r) one p q = p.2 ∙ ap (λ (xs : List ℕ). line ++ xs) (one r p.0 q.0 p.1 q.1) ∙ sym q.2

-- the lines of a box
abbrev PartOf : BoxForm → ℕ → ℕ → Rule → Box → List ℕ → Type 0
PartOf form n depth rule b part = IsPart (AreBoxLines form n (depth + 1)) (box_line form rule depth b) (descends (at_kind (containers (ruled rule)) b.kind)) b part

lines_one : (form : BoxForm) (n depth : ℕ) (rule : Rule) (c : Container) (text other : List ℕ) → AreBoxLines form n depth rule c text → AreBoxLines form n depth rule c other → text ≡ other
lines_one form zero depth rule c text other x y = absurd x
lines_one form (suc n) depth rule c text other x y =
    let same : y.0 ≡ x.0 = tiles_one c y.0 x.0 y.1 x.1 in
    let z : AllZip (PartOf form n depth rule) x.0 y.2 = subst (λ (bs : List Box). AllZip (PartOf form n depth rule) bs y.2) same y.3 in
    let parts : x.2 ≡ y.2 = zip_one (PartOf form n depth rule)
    (λ b part more p q. part_one form n depth b (box_line form rule depth b) part more (descends (at_kind (containers (ruled rule)) b.kind)) (λ r t m u v. lines_one form n (depth + 1) r (box_container b) t m u v) p q)
    x.0 x.2 y.2 x.3 z in
    x.4 ∙ ap (λ (ps : List (List ℕ)). concat ps) parts ∙ sym y.4

pub list_of_boxes_is_one : ListOfBoxesIsOne
list_of_boxes_is_one form file text other x y = lines_one form 6 0 File _ text other x y

-- ---- texts of what a file is judged to be

-- the IDs of the boxes of an accepted file are distinct
tree_ids : (file : List ℕ) (tree : FileTree) → judge file ≡ Ok (presentation_of file tree) → are_distinct (map (λ (x : TrackTree). (track_head_of x).id) tree.movie.tracks) ≡ true
tree_ids file tree e =
    let each = map_twice (track_of file (file_parts tree)) (λ (u : Track). u.head.id) tree.movie.tracks in
    sym (ap are_distinct each) ∙ distinct_ids file (presentation_of file tree) (judged_denotes file (presentation_of file tree) e)

-- a file has one track of boxes with an ID
tree_is_one : (file : List ℕ) (id : ℕ) (tree other : FileTree) (t u : TrackTree) → IsTreeWith file id tree t → IsTreeWith file id other u → (other ≡ tree) × (u ≡ t)
tree_is_one file id tree other t u i j =
    let same = file_tree_one file other tree j.is_tree i.is_tree in
    let there : slice_get tree.movie.tracks j.place ≡ Some u = ap (λ (x : FileTree). slice_get x.movie.tracks j.place) (sym same) ∙ j.is_there in
    (same, distinct_same (λ (x : TrackTree). (track_head_of x).id) tree.movie.tracks u t (tree_ids file tree i.judged) (got_in tree.movie.tracks j.place u there) (got_in tree.movie.tracks i.place t i.is_there) (j.id_is ∙ sym i.id_is))

listing_one : (file : List ℕ) (form : Form) (tree other : FileTree) (t u : TrackTree) → (other ≡ tree) × (u ≡ t)
    → sample_listing form (track_of file (file_parts other) u) (sample_spots other u) ≡ sample_listing form (track_of file (file_parts tree) t) (sample_spots tree t)
listing_one file form tree other t u e = λ j. sample_listing form (track_of file (file_parts (e.0 j)) (e.1 j)) (sample_spots (e.0 j) (e.1 j))

pub judged_texts_are_one : JudgedTextsAreOne
judged_texts_are_one = record {
  normal_form = λ file bytes other x y. x.2 ∙ ap (λ (p : Presentation). normal p) (judged_one file x.0 y.0 x.1 y.1) ∙ sym y.2;
  reduced_form = λ s file bytes other x y. x.3 ∙ ap (λ (p : Presentation). normal (left_of s.leaving p)) (shows_one s.track file x.0 y.0 x.1 y.1) ∙ sym y.3;
  shown = λ file bytes other x y. x.2 ∙ ap (λ (p : Presentation). compact_text (show_value p) ++ line_feed) (judged_one file x.0 y.0 x.1 y.1) ∙ sym y.2;
  listed = λ file id form bytes other x y. x.3 ∙ sym (listing_one file form x.0 y.0 x.1 y.1 (tree_is_one file id x.0 y.0 x.1 y.1 x.2 y.2)) ∙ sym y.3;
  extracted = λ file id bytes other x y. x.2 ∙ ap (λ (t : Track). sample_data t) (track_is_one file id x.0 y.0 x.1 y.1) ∙ sym y.2;
  printed = λ s file bytes other x y. x.3 ∙ ap (λ (p : Presentation). text s.leaving p) (shows_one s.track file x.0 y.0 x.1 y.1) ∙ sym y.3;
}
