use Rattle.std.specs.Prelude.{◌≡◌, ℕ, pos, List, [], ◌∷◌, codes, refl}
use Rattle.mp4_boxes.proofs.Vectors.{f1, f2, f3, np, part}
use Rattle.mp4_boxes.specs.format.Box.{Box}
use Rattle.mp4_tables.specs.format.PlainSamples.{PlacedSample}
use Rattle.mp4_frag.specs.format.Fragments.{fragment_of}
use Rattle.mp4_frag.specs.format.FragmentSamples.{fragment_samples, all_parts}
use Rattle.mp4_frag.specs.declared.trex.Trex.{Trex}

abbrev pub p_trex : Trex
p_trex = record { id = 1; description = 1; duration = 0; size = 0; flags = 0 }

abbrev pub three_at : ℕ → ℕ → ℕ → List PlacedSample
three_at a b c = record { duration = 512; offset = pos 0; flags = 0; description = 1; at = pos a; size = 5; groups = [] }
    ∷ record { duration = 512; offset = pos 0; flags = 65536; description = 1; at = pos b; size = 0; groups = [] }
    ∷ record { duration = 512; offset = pos 0; flags = 65536; description = 1; at = pos c; size = 7; groups = [] } ∷ []

abbrev f1_trafs : List (List Box)
f1_trafs = (part f1 613 36 (codes "tfhd") ∷ part f1 649 36 (codes "trun") ∷ []) ∷ []

abbrev f2_trafs : List (List Box)
f2_trafs = (part f2 613 28 (codes "tfhd") ∷ part f2 641 36 (codes "trun") ∷ []) ∷ []

abbrev f3_trafs : List (List Box)
f3_trafs = (part f3 613 28 (codes "tfhd") ∷ part f3 641 24 (codes "trun") ∷ []) ∷ (part f3 673 28 (codes "tfhd") ∷ part f3 701 24 (codes "trun") ∷ []) ∷ []

abbrev np_trafs : List (List Box)
np_trafs = (part np 613 20 (codes "tfhd") ∷ part np 633 20 (codes "tfdt") ∷ part np 653 68 (codes "trun") ∷ []) ∷ []

abbrev samples_at : List ℕ → List (List Box) → List PlacedSample
samples_at file trafs = fragment_samples 1 (all_parts (p_trex ∷ []) (fragment_of (record { moof = part file 581 8 (codes "moof"); children = []; trafs = trafs }) ∷ []))

f1-samples : samples_at f1 f1_trafs ≡ three_at 693 698 698
f1-samples = refl

f2-samples : samples_at f2 f2_trafs ≡ three_at 685 690 690
f2-samples = refl

f3-samples : samples_at f3 f3_trafs ≡ three_at 733 738 738
f3-samples = refl

np-samples : samples_at np np_trafs ≡ three_at 729 734 734
np-samples = refl
