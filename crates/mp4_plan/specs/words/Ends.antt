-- Where a piece that is fed with samples ends.
use Rattle.std.specs.Prelude.{ℕ, ◌+◌, ◌*◌, ◌/◌, ◌%◌, ◌^◌, ◌==◌, nat_le, Bool, false, not, ◌&&◌, Option, Some, None}
use Rattle.mp4_tables.specs.declared.sample.SampleAt.{SampleAt}
use Rattle.mp4_plan.specs.declared.ends.End.{End}
use Rattle.mp4_plan.specs.declared.ends.End.TheVariants.{Sync, Before}

-- sample_is_non_sync_sample is not set (8.8.3.1)
abbrev pub is_sync_at : SampleAt → Bool
is_sync_at s = s.flags / 2 ^ 16 % 2 == 0

-- a piece with this end has ended where the sample comes
abbrev pub has_ended : End → SampleAt → Bool
has_ended (Sync from scale) s = is_sync_at s && nat_le (from + scale) s.dts
has_ended (Before None first scale) s = false
has_ended (Before (Some cut) first scale) s = nat_le (cut * scale) (s.dts * first)

-- the next sample, if there is one, goes into a new piece with this end
abbrev pub first_goes : End → Option SampleAt → Bool
first_goes end None = false
first_goes end (Some s) = not (has_ended end s)

-- the sample goes into a piece with this end and description
abbrev pub goes_in : End → ℕ → SampleAt → Bool
goes_in end description s = not (has_ended end s) && s.description == description
