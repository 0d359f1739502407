use Rattle.std.proofs.Common.{◌+◌, ℕ, sym, subst}
use Rattle.mp4_present.specs.format.Denotes.{file_parts, track_of}
use Rattle.mp4_content.proofs.Aligned.{least_left}
use Rattle.mp4_content.specs.format.Alignment.{IsFront}
use Rattle.mp4_content.specs.format.Remaining.{divided_samples}
use Rattle.mp4_content.proofs.CommonEnds.{front_is}
use Rattle.mp4_content.proofs.FilesCompared.{first_is}
use Rattle.mp4_content.proofs.SamplesShifted.{maps_left}
use Rattle.mp4_content.proofs.aligning.same_in_front.Goals as goal

pub returns-clause-front : goal.returns-clause-front
returns-clause-front g c told told_right tree other o p t u at bt counts =
    let h = c.in_ok-_all.ensures.handed in
    let file = g.S.Store.file c.args.left.now in
    let right_file = g.T.Store.file c.args.right.now in
    let l = c.args.tracks.leaving in
    let place = c.args.tracks.place in
    let ds = c.args.tracks.divisors in
    let x = track_of file (file_parts tree) t in
    let y = track_of right_file (file_parts other) u in
    let first = first_is c.compare_track_samples.new.seen.first c.in_ok-_all._all _ h.goes (λ whole. h.all whole told told_right tree other o p t u at bt) (h.front told told_right tree other o p t u at bt) in
    let most = least_left l ds.left ds.right x y c.args.counts.left c.args.counts.right c.min.result c.min.ensures counts.0 counts.1 in
    subst (λ (k : ℕ). IsFront (divided_samples l ds.left x) (divided_samples l ds.right y) k) (sym c.front_before.ensures.is)
    (front_is (place + 1) (divided_samples l ds.left x) (divided_samples l ds.right y) c.min.result c.compare_track_samples.new.seen.first (maps_left l ds.left file c.args.tracks.movies.now.left tree t place o at)
    (maps_left l ds.right right_file c.args.tracks.movies.now.right other u place p bt) most first)
