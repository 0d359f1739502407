-- Where a `moov` has a sound tree, no fault of it is named, and the tree is that one.
use Rattle.std.proofs.Common.{◌≡◌, Result, Ok, Err, refl, ap}
use Rattle.mp4_boxes.specs.declared.fault.Fault.{Fault}
use Rattle.mp4_head.specs.format.FirstFault.{head_or_fault}
use Rattle.mp4_head.specs.format.Tree.{MovieTree, IsMovieTree, IsSoundMovie}
use Rattle.mp4_head.proofs.HeadExcludes.{head_excludes}
use Rattle.mp4_head.proofs.JudgedSound.{judged_sound}
use Rattle.mp4_head.proofs.JudgedStands.{judged_stands}
use Rattle.mp4_head.proofs.Trees.{movie_tree_one}

-- a fault that is named would stand in the tree, and there is one tree
pub sound_judged : (m : MovieTree) → IsMovieTree m → IsSoundMovie m → head_or_fault m.moov ≡ Ok m
sound_judged m h s = by (head_or_fault m.moov) refl
  where
    by : (r : Result MovieTree Fault) → head_or_fault m.moov ≡ r → r ≡ Ok m
    by (Err f) e = absurd (head_excludes m f (judged_stands m.moov f e) h s)
    by (Ok tree) e =
        let j = judged_sound m.moov tree e in
        ap (λ (t : MovieTree). Ok t) (movie_tree_one tree m j.0 j.1 h)
