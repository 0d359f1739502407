-- What is wrong with a `traf` where a fault is named, behind what is known of the tracks.
use Rattle.std.specs.Prelude.{◌≡◌, ℕ, ◌==◌, List, [], ◌∷◌, Some, find, codes}
use Rattle.mp4_boxes.specs.format.Box.{Box, box_container}
use Rattle.mp4_boxes.specs.format.Children.{of_kind, Holds}
use Rattle.mp4_boxes.specs.format.Layout.{tfhd, IsReadable}
use Rattle.mp4_boxes.specs.declared.rule.Rule.TheVariants as rules
use Rattle.mp4_frag.specs.format.Fragments.{TrackFragment, track_fragment_of}
use Rattle.mp4_frag.specs.words.RunsJudged.{children_of}
use Rattle.mp4_frag.specs.declared.state.TrackState.{TrackState}
use Rattle.mp4_frag.specs.declared.trex.Trex.{Trex}

-- what the boxes of a `traf` say
abbrev pub traf_in : Box → TrackFragment
traf_in b = track_fragment_of (children_of b)

-- this is the only box of the type in the `traf`
abbrev pub IsOnly : List ℕ → Box → Box → Type 0
IsOnly kind b h = of_kind kind (children_of b) ≡ h ∷ []

-- the track of a `traf`, and what its fragments inherit
pub record IsTrackOf (b : Box) (tracks : List TrackState) (t : TrackState) (trex : Trex)
    : Type 0 where
  pub found : find (λ (s : TrackState). s.id == (traf_in b).id) tracks ≡ Some t
  pub defaults : t.trex ≡ Some trex

-- its boxes are those of the profile
abbrev pub HoldsBoxes : Box → Type 0
HoldsBoxes b = Holds rules.TrackFragment (box_container b) (children_of b)

-- so they are, and this is its `tfhd`, which can be read
pub record HasHead (b h : Box) : Type 0 where
  pub holds : HoldsBoxes b
  pub only : IsOnly (codes "tfhd") b h
  pub readable : IsReadable tfhd h.payload
