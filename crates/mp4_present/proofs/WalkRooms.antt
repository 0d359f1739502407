-- The room of a walk: for the longest `traf` that has samples of its track.
use Rattle.std.proofs.Common.{◌≡◌, min, List, ℕ, ap, ◌∙◌, arith, Some, slice_get}
use Rattle.mp4_head.specs.format.Tree.{TrackTree, track_head_of}
use Rattle.mp4_present.specs.format.Denotes.{FileTree}
use Rattle.mp4_present.specs.words.Movies.{MovieSeen, own_room, room_of}
use Rattle.mp4_present.specs.words.OpenedMovie.{IsOpenedAs}
use Rattle.mp4_present.specs.words.Outline.{longest}
use Rattle.mp4_present.specs.words.OwnTrafs.{IsOwn}
use Rattle.mp4_present.specs.words.SamplesComing.{walk_room}
use Rattle.mp4_present.proofs.OwnPlaced.{own_short, zip_got}

-- what is kept of an opened movie says the room of a walk over its track
pub room_opened : (file : List ℕ) (m : MovieSeen) (tree : FileTree) (t : TrackTree) (k : ℕ) → IsOpenedAs file m tree → slice_get tree.movie.tracks k ≡ Some t → own_room m k ≡ walk_room tree t
room_opened file m tree t k o at =
    let got = zip_got (λ (t : TrackTree) own. IsOwn tree.movie (track_head_of t).id tree.fragments own) tree.movie.tracks m.own k t o.own at in
    let kept = ap (λ found. room_of found m.longest) got.1 ∙ ap (λ n. min m.longest n) got.2.longest in
    let short = own_short tree.movie (track_head_of t).id tree.fragments o.is_tree.fragments in
    let all = ap longest o.is_tree.moofs in
    let most = o.longest_is in
    omega (arith, kept, short, all, most)
