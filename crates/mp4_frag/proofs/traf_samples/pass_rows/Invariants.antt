use Rattle.std.proofs.Common.{◌≡◌, ◌+◌, ◌-◌, ◌*◌, ◌^◌, ◌≤◌}
use Rattle.mp4_tables.specs.words.Next.{PassesNonSync}
use Rattle.mp4_frag.specs.words.ColumnsRead.{row_room}
use Rattle.mp4_frag.specs.words.PlacesIn.{IsRowPlace}
use Rattle.mp4_frag.specs.words.Times.{time_behind}
use Rattle.mp4_frag.specs.words.Walks.{capped, coming}
use Rattle.mp4_frag.specs.declared.places.TrafPlace.{TrafPlace}
use Rattle.mp4_frag.proofs.traf_samples.pass_rows.Given as goal

-- so many rows were passed
abbrev pub invariant-loop-count : goal.invariant-loop-count
invariant-loop-count l =
    let here : TrafPlace = record l.place { run = l.run; dts = capped (l.place.dts + l.lasts); at = capped (l.place.at + l.bytes) } in
    record {
      rows : IsRowPlace l.payload l.run;
      width : l.run.width ≡ row_room l.run.bits;
      left : l.count + l.run.left ≡ l.place.run.left;
      few : l.count ≤ l.most;
      short : l.lasts ≤ 2 ^ 32 * l.count;
      small : l.bytes ≤ 2 ^ 32 * l.count;
      time : time_behind l.payload here ≡ time_behind l.payload l.place;
      passed : PassesNonSync l.description l.count (coming l.payload l.place) (coming l.payload here);
    }

abbrev pub decreases-loop-count : goal.decreases-loop-count
decreases-loop-count l = l.most - l.count
