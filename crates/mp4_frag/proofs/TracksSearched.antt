-- A track that is searched among all, one after the other.
use Rattle.std.proofs.Common.{◌≡◌, ℕ, zero, suc, ◌<◌, ◌==◌, Bool, true, false, cond, List, [], ◌∷◌, length, take, Some, None, refl, sym, ◌∙◌, arith, slice_index_or}
use Rattle.std.specs.Prelude.{Option}
use Rattle.mp4_frag.specs.words.Finding.{IsFirstWith, track_with}
use Rattle.mp4_frag.specs.declared.state.TrackState.{TrackState}
use Rattle.mp4_frag.proofs.LeavesRead.{got}

-- behind the first one
other : (t : TrackState) (id : ℕ) (v : Bool) (o : Option TrackState) → cond v (Some t) o ≡ None → v ≡ false
other t id true o e = absurd cc
other t id false o e = refl

behind_other : (t : TrackState) (id : ℕ) (ts : List TrackState) → track_with id (t ∷ ts) ≡ None → (t.id == id) ≡ false
behind_other t id ts e = other t id (t.id == id) (track_with id ts) e

pub passed_other : (tracks : List TrackState) (k id : ℕ) (d : TrackState) → k < length tracks → ((slice_index_or tracks k d).id == id) ≡ false → track_with id (take k tracks) ≡ None → track_with id (take (suc k) tracks) ≡ None
passed_other [] k id d lt e h = absurd (omega arith)
passed_other (t ∷ tracks) zero id d lt e h = rw e refl
passed_other (t ∷ tracks) (suc k) id d lt e h =
    let apart = behind_other t id (take k tracks) h in
    let rest : track_with id (take k tracks) ≡ None = sym (rw apart refl) ∙ h in
    rw apart (passed_other tracks k id d (omega arith) e rest)

found_at : (tracks : List TrackState) (k id : ℕ) (d : TrackState) → k < length tracks → ((slice_index_or tracks k d).id == id) ≡ true → track_with id (take k tracks) ≡ None → track_with id tracks ≡ Some (slice_index_or tracks k d)
found_at [] k id d lt e h = absurd (omega arith)
found_at (t ∷ tracks) zero id d lt e h = rw e refl
found_at (t ∷ tracks) (suc k) id d lt e h =
    let apart = behind_other t id (take k tracks) h in
    let rest : track_with id (take k tracks) ≡ None = sym (rw apart refl) ∙ h in
    rw apart (found_at tracks k id d (omega arith) e rest)

pub first_there : (tracks : List TrackState) (k id : ℕ) (d : TrackState) → k < length tracks → ((slice_index_or tracks k d).id == id) ≡ true → track_with id (take k tracks) ≡ None → IsFirstWith tracks id k
first_there tracks k id d lt e h = record { found = found_at tracks k id d lt e h ∙ sym (got k tracks d lt); first = h }
