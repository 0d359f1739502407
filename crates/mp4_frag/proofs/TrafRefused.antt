-- A `traf` that is refused.
use Rattle.std.proofs.Common.{◌≡◌, ℕ, ◌<◌, ◌==◌, List, [], length, Some, sym, ap, ◌∙◌, arith, slice_index_or}
use Rattle.std.specs.Prelude.{ℤ, codes, find}
use Rattle.std.specs.List.{slice_get}
use Rattle.mp4_boxes.specs.format.Box.{Box, box_container}
use Rattle.mp4_boxes.specs.declared.rule.Rule.TheVariants as rules_of
use Rattle.mp4_boxes.specs.format.Children.{of_kind, payload_of, Holds}
use Rattle.mp4_frag.specs.format.Fragments.{TrackFragment}
use Rattle.mp4_frag.specs.format.FragmentSamples.{base_of}
use Rattle.mp4_frag.specs.words.Reading.{IsHead, as_traf, inheritance}
use Rattle.mp4_frag.specs.words.RunsJudged.{children_of}
use Rattle.mp4_frag.specs.words.TrafFaults.{traf_in, HoldsBoxes, HasHead, IsOnly, IsTrackOf}
use Rattle.mp4_frag.specs.words.Walks.{head_of}
use Rattle.mp4_frag.specs.declared.heads.TrafHead.{TrafHead}
use Rattle.mp4_frag.specs.declared.heads.Inherited.{Inherited}
use Rattle.mp4_frag.specs.declared.state.TrackState.{TrackState}
use Rattle.mp4_frag.specs.declared.trex.Trex.{Trex}
use Rattle.mp4_frag.proofs.LeavesRead.{head_is, got}
use Rattle.mp4_frag.proofs.HeadsFound.{kept_count}
use Rattle.mp4_frag.proofs.TrafPassed.{payload_is}

pub same_head : (b h : Box) (head : TrafHead) → IsOnly (codes "tfhd") b h → IsHead h.payload head → as_traf head ≡ head_of (payload_of (codes "tfhd") (children_of b))
same_head b h head one is = head_is h.payload head is ∙ ap head_of (sym (payload_is (codes "tfhd") h (children_of b) one))

-- what is known of a `traf` whose track is there
pub record IsOpened (moof : ℕ) (before base : ℤ) (tracks : List TrackState) (b h : Box) (state : TrackState) (trex : Trex) (inherited : Inherited) : Type 0 where
  pub head : HasHead b h
  pub track : IsTrackOf b tracks state trex
  pub from : base ≡ base_of moof before (traf_in b)
  pub taken : inherited ≡ inheritance (traf_in b) trex

pub opened : (moof k : ℕ) (before base : ℤ) (tracks : List TrackState) (d state : TrackState) (b h : Box) (head : TrafHead) (trex : Trex) (inherited : Inherited) → HoldsBoxes b → IsOnly (codes "tfhd") b h → IsHead h.payload head → k < length tracks
    → find (λ (t : TrackState). t.id == head.id) tracks ≡ slice_get tracks k
    → state ≡ slice_index_or tracks k d → state.trex ≡ Some trex → base ≡ base_of moof before (as_traf head) → inherited ≡ inheritance (as_traf head) trex → IsOpened moof before base tracks b h state trex inherited
opened moof k before base tracks d state b h head trex inherited holds one is lt found at some eb ei =
    let same = same_head b h head one is in
    record {
      head = record { holds = holds; only = one; readable = is.readable };
      track = record { found = ap (λ (t : TrackFragment). find (λ (s : TrackState). s.id == t.id) tracks) (sym same) ∙ found ∙ got k tracks d lt ∙ ap Some (sym at); defaults = some };
      from = eb ∙ ap (base_of moof before) same;
      taken = ei ∙ ap (λ (t : TrackFragment). inheritance t trex) same;
    }

-- a `traf` with no `tfhd` does not hold what it must
pub no_head : (b : Box) (boxes : List Box) → Holds rules_of.TrackFragment (box_container b) boxes → of_kind (codes "tfhd") boxes ≡ [] → ⊥
no_head b boxes h e =
    let one = h.quantities.0 in
    let count = kept_count (codes "tfhd") boxes in
    omega (arith, one, count, ap (λ (bs : List Box). length bs) e)
