-- Differences that are taken along with decode times.
use Rattle.std.specs.Prelude.{◌≡◌, List, [], ◌∷◌, Option, None, Some}
use Rattle.std.specs.List.{AllByRecursion}
use Rattle.mp4_present.specs.format.Presentation.{Presentation}
use Rattle.mp4_content.specs.format.DecodeTimes.{decode_time, decode_times}
use Rattle.mp4_content.specs.declared.comparing.differences.DecodeTime.{DecodeTime}
use Rattle.mp4_content.specs.declared.comparing.differences.Difference.{Difference}
use Rattle.mp4_content.specs.declared.comparing.differences.Differences.{Ghosts as Differences}
use Rattle.mp4_content.specs.declared.comparing.Found.{Found}

-- the decode time of the first that was taken, if there is one
abbrev pub time_as_list : Option Difference → Option DecodeTime → List (Option DecodeTime)
time_as_list None time = []
time_as_list (Some d) time = time ∷ []

-- the first that was taken, and its decode time
abbrev pub found_with : Option Difference → Option DecodeTime → Option Found
found_with None time = None
found_with (Some d) time = Some (record { difference = d; time = time })

-- these differences are of what is decoded then
abbrev pub HaveTime : Presentation → Option DecodeTime → List Difference → Type 0
HaveTime p time ds = AllByRecursion (λ (d : Difference). decode_time p d.subject ≡ time) ds

-- if what was taken before was taken with its decode times, what is taken after it is so too
abbrev pub KeepsTimes : {Z : Type 0} → Differences Z → Z → Z → Presentation → Type 0
KeepsTimes D seen seen_after p = D.times seen ≡ decode_times p (D.taken seen)
    → D.times seen_after ≡ decode_times p (D.taken seen_after)

-- a difference was found with its decode time
abbrev pub IsTimed : Presentation → Found → Type 0
IsTimed p found = found.time ≡ decode_time p found.difference.subject
