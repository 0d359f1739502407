-- What was put at Ok over any store, handed up.
use Rattle.std.proofs.Common.{ℕ, List, Result, Ok, Err}
use Rattle.std.specs.Prelude.{OnOk}
use Rattle.mp4_boxes.specs.declared.refusal.Refusal.{Refusal}
use Rattle.mp4_present.specs.words.Movies.{MovieSeen}
use Rattle.mp4_content.specs.format.LeadIns.{words_told}
use Rattle.mp4_content.specs.declared.without.Without.{Without}
use Rattle.mp4_plan.specs.words.PutPieces.{IsHeadLeft, IsPutWhole}
use Rattle.mp4_answers.specs.words.WholePut.{PutsWhole}

-- of a movie that was opened
pub whole_put : {T : Type 0} (l : Without) (m : MovieSeen) (Took : List ℕ → Type 0) (result : Result T Refusal) → OnOk result ((head : List ℕ) × IsHeadLeft m (words_told l) head × IsPutWhole m Took head) → OnOk result (PutsWhole l Took)
whole_put l m Took (Ok done) w = record { movie = m; head = w.0; left = w.1; whole = w.2 }
whole_put l m Took (Err refusal) w = tt
