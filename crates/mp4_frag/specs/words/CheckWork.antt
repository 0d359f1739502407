-- What the check of a `moof` costs: steps, by what its boxes say and by its bytes, and looks at
-- tracks.
use Rattle.std.specs.Prelude.{◌≡◌, ℕ, ◌+◌, ◌*◌, ◌≤◌, length, Option, Result, IfOk, IfSome}
use Rattle.mp4_boxes.specs.format.Box.{Box}
use Rattle.mp4_frag.specs.format.FragmentRows.{traf_rows, fragment_rows, moof_says}
use Rattle.mp4_frag.specs.words.TrafFaults.{traf_in}

-- the steps of a `traf`, beside the one that its `moof` takes for it, and the samples that it takes
-- of the room
pub record TrafWork {T E : Type 0} (traf : Box) (steps more room less : ℕ) (result : Result T E)
    : Type 0 where
  pub cost : IfOk result (λ at. more + less + 1 ≡ steps + room + traf_rows (traf_in traf))
  pub within : IfOk result
      (λ at. 8 * more + 8 * less ≤ 8 * steps + 8 * room + 3 * length traf.payload)
  pub most : 8 * more ≤ 8 * steps + 8 * room + 3 * length traf.payload

-- those of a `moof`
pub record MoofWork {T E : Type 0} (moof : Box) (steps more room less : ℕ) (result : Result T E)
    : Type 0 where
  pub cost : IfOk result (λ view. more + less ≡ steps + room + fragment_rows (moof_says moof))
  pub within : IfOk result
      (λ view. 2 * more + 2 * less ≤ 2 * steps + 2 * room + length moof.payload)
  pub most : 2 * more ≤ 2 * steps + 2 * room + length moof.payload

-- looks to find a track: one at least if it is found, and no more than it may take
pub record FindLooks {T : Type 0} (tracks looks more : ℕ) (found : Option T) : Type 0 where
  pub some : IfSome found (λ place. looks + 1 ≤ more)
  pub most : more ≤ looks + tracks

-- so for the track of a `traf`
pub record TrafLooks {T E : Type 0} (tracks looks more : ℕ) (result : Result T E) : Type 0 where
  pub some : IfOk result (λ at. looks + 1 ≤ more)
  pub most : more ≤ looks + tracks

-- and for those of all `traf`s of a `moof`; a `traf` has the 8 bytes of its header
pub record MoofLooks {T E : Type 0} (moof : Box) (tracks looks more : ℕ) (result : Result T E)
    : Type 0 where
  pub some : IfOk result (λ view. looks + length (moof_says moof).trafs ≤ more)
  pub each : IfOk result (λ view. more ≤ looks + tracks * length (moof_says moof).trafs)
  pub most : 8 * more ≤ 8 * looks + tracks * length moof.payload
