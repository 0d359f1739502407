-- The boxes of an `mvex`, one after the other.
use Rattle.std.proofs.Common.{◌≡◌, ℕ, true, false, List, [], ◌∷◌, ◌++◌, map, refl, sym, ap, subst, ◌∙◌}
use Rattle.std.specs.Prelude.{codes, bytes_eq, nat_eq}
use Rattle.std.specs.List.{list_any}
use Rattle.std.specs.BTreeSet.{BTreeSet}
use Rattle.std.proofs.lemmas.List.{map-append}
use Rattle.mp4_boxes.specs.format.Box.{Box, box_container}
use Rattle.mp4_boxes.specs.format.Children.{Holds, of_kind}
use Rattle.mp4_boxes.specs.format.Layout.{trex, IsSound}
use Rattle.mp4_boxes.specs.format.Places.{ruled, AreSound}
use Rattle.mp4_boxes.specs.declared.rule.Rule.TheVariants as kinds
use Rattle.mp4_frag.specs.declared.trex.Trex.{Trex}
use Rattle.mp4_frag.specs.format.Fragments.{trex_of}
use Rattle.mp4_head.specs.format.Tree.{are_distinct}
use Rattle.mp4_head.specs.words.Containers.{SaysExtends}
use Rattle.mp4_head.specs.words.Ids.{HasIds, AddsId}
use Rattle.mp4_head.proofs.Taken.{no_ids, more_ids, distinct_more}
use Rattle.mp4_head.proofs.Walks.{Walk, walk_none, walk_more, walk_all, sound_more}
use Rattle.mp4_tables.proofs.GroupWalks.{kind_snoc, kind_snoc_other}

-- what was read of the boxes that were passed
pub record ExtendsPassed (all left : List Box) (trexes : List Trex) (ids : BTreeSet ℕ) : Type 0 where
  pub walk : Walk all left
  pub sound : AreSound (ruled kinds.MovieExtends) walk.passed
  pub says : trexes ≡ map (λ (b : Box). trex_of b.payload) (of_kind (codes "trex") walk.passed)
  pub distinct : are_distinct (map (λ (x : Trex). x.id) trexes) ≡ true
  pub met : HasIds ids (map (λ (x : Trex). x.id) trexes)

pub extends_none : (all : List Box) (ids : BTreeSet ℕ) → ids.keys ≡ [] → ExtendsPassed all all [] ids
extends_none all ids e = record { walk = walk_none all; sound = tt; says = refl; distinct = refl; met = no_ids ids e }

-- a `trex` with a new ID was read
pub extends_this : (all left later : List Box) (child : Box) (trexes more : List Trex) (old new : BTreeSet ℕ) (x : Trex) → ExtendsPassed all left trexes old → left ≡ child ∷ later
    → bytes_eq (codes "trex") child.kind ≡ true → IsSound trex child.payload → x ≡ trex_of child.payload → AddsId old new x.id → more ≡ trexes ++ x ∷ [] → ExtendsPassed all later more new
extends_this all left later child trexes more old new x p e k s r a added =
    let ids : map (λ (y : Trex). y.id) more ≡ map (λ (y : Trex). y.id) trexes ++ x.id ∷ [] = ap (map (λ (y : Trex). y.id)) added ∙ map-append (λ (y : Trex). y.id) trexes (x ∷ []) in
    let none : list_any (nat_eq x.id) (map (λ (y : Trex). y.id) trexes) ≡ false = sym (p.met x.id) ∙ a.new_there in
    record {
      walk = walk_more all left later child p.walk e;
      sound = sound_more (ruled kinds.MovieExtends) p.walk.passed child p.sound (rw k s);
      says =
          added
          ∙ ap (λ (ts : List Trex). ts ++ x ∷ []) p.says
          ∙ ap (λ (y : Trex). map (λ (b : Box). trex_of b.payload) (of_kind (codes "trex") p.walk.passed) ++ y ∷ []) r
          ∙ sym (map-append (λ (b : Box). trex_of b.payload) (of_kind (codes "trex") p.walk.passed) (child ∷ []))
          ∙ ap (map (λ (b : Box). trex_of b.payload)) (sym (kind_snoc (codes "trex") p.walk.passed child k));
      distinct = ap are_distinct ids ∙ distinct_more (map (λ (y : Trex). y.id) trexes) x.id p.distinct none;
      met = subst (λ (numbers : List ℕ). HasIds new numbers) (sym ids) (more_ids old new (map (λ (y : Trex). y.id) trexes) x.id p.met a);
    }

-- another box was passed
pub extends_other : (all left later : List Box) (child : Box) (trexes : List Trex) (ids : BTreeSet ℕ) → ExtendsPassed all left trexes ids → left ≡ child ∷ later → bytes_eq (codes "trex") child.kind ≡ false → ExtendsPassed all later trexes ids
extends_other all left later child trexes ids p e k = record {
  walk = walk_more all left later child p.walk e;
  sound = sound_more (ruled kinds.MovieExtends) p.walk.passed child p.sound (rw k tt);
  says = p.says ∙ ap (map (λ (b : Box). trex_of b.payload)) (sym (kind_snoc_other (codes "trex") p.walk.passed child k));
  distinct = p.distinct;
  met = p.met;
}

-- all were
pub extends_all : (b : Box) (all left : List Box) (trexes : List Trex) (ids : BTreeSet ℕ) → Holds kinds.MovieExtends (box_container b) all → ExtendsPassed all left trexes ids → left ≡ [] → SaysExtends b trexes
extends_all b all left trexes ids h p e =
    let same = walk_all all left p.walk e in
    record {
      boxes = all;
      holds = h;
      sound = subst (λ (bs : List Box). AreSound (ruled kinds.MovieExtends) bs) (sym same) p.sound;
      says = p.says ∙ ap (λ (bs : List Box). map (λ (c : Box). trex_of c.payload) (of_kind (codes "trex") bs)) (sym same);
      distinct = p.distinct;
    }
