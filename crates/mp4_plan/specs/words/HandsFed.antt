-- What becomes of the samples in hand: they are taken into a piece and noted, and their bytes taken
-- along.
use Rattle.std.specs.Prelude.{◌≡◌, ℕ, ◌+◌, ◌<◌, if◌then◌else◌, List, [], ◌∷◌, ◌++◌, length, take, drop, map, Option, Some, None}
use Rattle.std.proofs.Common.{◌∙◌, refl, sym, ap, append_assoc, length-append, zero-add, add_assoc}
use Rattle.mp4_boxes.specs.format.Bytes.{sum_of}
use Rattle.mp4_tables.specs.declared.sample.SampleAt.{SampleAt}
use Rattle.mp4_present.specs.words.Carried.{BytesGoOn}
use Rattle.mp4_present.specs.words.Joined.{sample_bytes}
use Rattle.mp4_present.specs.words.InHand.{left_in_hand}
use Rattle.mp4_present.specs.words.Movies.{MovieSeen, InHandOf}
use Rattle.mp4_present.specs.declared.walking.in_hand.InHand.{InHand}
use Rattle.mp4_content.specs.declared.reduced.Reduction.{Reduction}
use Rattle.mp4_present.specs.declared.walking.in_hand.Place.{Place}
use Rattle.mp4_present.specs.declared.walking.Walk.{Walk}
use Rattle.mp4_content.specs.words.ComingLess.{less}
use Rattle.mp4_plan.specs.words.Ends.{goes_in}
use Rattle.mp4_plan.specs.words.Gathering.{Planning, description_in, count_of, more_of, piece_fed, samples_after}
use Rattle.mp4_plan.specs.words.Stretches.{JoinsOn}
use Rattle.mp4_plan.specs.words.Taken.{row_seen}
use Rattle.mp4_plan.specs.declared.stretches.Stretches.{Stretches}
use Rattle.mp4_plan.specs.declared.track_pieces.Stop.{Stop}
use Rattle.mp4_plan.specs.declared.track_pieces.Stop.TheVariants.{Empty, Ended, Full}
use Rattle.mp4_plan.specs.declared.carrying.Load.{Load}
use Rattle.mp4_plan.specs.declared.noted_rows.Row.{Row}

-- the number of bytes of some samples
abbrev pub sizes_of : List SampleAt → ℕ
sizes_of samples = sum_of (λ (s : SampleAt). s.size) samples

-- Of all these samples the bytes of the first follow, as many as the load has become less by; the
-- others are to come.
pub record BytesCarried (file : List ℕ) (Took : List ℕ → Type 0) (held held_after : List ℕ)
    (all to_come : List SampleAt) (load left : Load) : Type 0 where
  pub done : List SampleAt
  pub whole : all ≡ done ++ to_come
  pub count : load.samples ≡ length done + left.samples
  pub sizes : load.bytes ≡ sizes_of done + left.bytes
  pub bytes : BytesGoOn Took held held_after (sample_bytes file done)

-- ---- samples that are taken one by one

-- Some of the first samples were taken, and there is as much less room.
pub record TakesFirst (room room_after : ℕ) (rest rest_after : List SampleAt) : Type 0 where
  pub taken : List SampleAt
  pub less : room ≡ length taken + room_after
  pub whole : rest ≡ taken ++ rest_after

pub takes_itself : (room : ℕ) (rest : List SampleAt) → TakesFirst room room rest rest
takes_itself room rest = record { taken = []; less = sym (zero-add room); whole = refl }

pub takes_on : (a b c : ℕ) (xs ys zs : List SampleAt) → TakesFirst a b xs ys → TakesFirst b c ys zs
    → TakesFirst a c xs zs
takes_on a b c xs ys zs p q = record {
  taken = p.taken ++ q.taken;
  less = p.less ∙ ap (λ n. length p.taken + n) q.less
      ∙ sym (add_assoc (length p.taken) (length q.taken) c)
      ∙ ap (λ n. n + c) (sym (length-append p.taken q.taken));
  whole = p.whole ∙ ap (λ (l : List SampleAt). p.taken ++ l) q.whole
      ∙ sym (append_assoc p.taken q.taken zs);
}

-- With room for as many as there are rows, samples were fed to a piece, and those that went in are
-- noted in the first rows.
pub record Notes (before after : Planning) (all left : List SampleAt) (rows rows_after : List Row)
    : Type 0 where
  pub piece : after ≡ piece_fed before (take (length rows) all)
  pub rest : left ≡ drop (more_of before (take (length rows) all)) all
  pub noted : take (more_of before (take (length rows) all)) rows_after
      ≡ map row_seen (take (more_of before (take (length rows) all)) all)

-- ---- a hand that is fed

-- why a piece took no more samples than those before this one
abbrev pub stop_of : Planning → Option SampleAt → Stop
stop_of p None = Empty
stop_of p (Some s) = if goes_in p.end (description_in p.gathered (s ∷ [])) s then Full else Ended

-- With room for so many: where there was no more room, more go in. Where it stopped for want of
-- samples, or at the end of the piece, all have gone in that go into it.
abbrev pub HasTaken : ℕ → Stop → Planning → Planning → List SampleAt → List SampleAt → Type 0
HasTaken room Full before after all left = room < more_of before all
HasTaken room Ended before after all left = (after ≡ piece_fed before all)
    × (left ≡ samples_after before all) × (0 < length left)
HasTaken room Empty before after all left = (after ≡ piece_fed before all)
    × (left ≡ samples_after before all) × (left ≡ [])

-- What is left of the samples in hand of a walk was fed to a piece with room for so many, and the
-- walk goes on from a place.
pub record HandFed (l : Reduction) (m : MovieSeen) (w : Walk) (room : ℕ) (before after : Planning)
    (stop : Stop) (place : Place) : Type 0 where
  pub hand : InHand
  pub is_hand : InHandOf m w hand
  pub later : InHand
  pub is_later : InHandOf m (record w { place = place }) later
  -- those that were taken
  pub done : List SampleAt
  pub whole : less l (left_in_hand hand) ≡ done ++ less l (left_in_hand later)
  pub count : count_of after.gathered ≡ count_of before.gathered + length done
  pub taken : HasTaken room stop before after (less l (left_in_hand hand))
      (less l (left_in_hand later))

-- They were noted in the first rows, too, and where their bytes lie.
abbrev pub HandNoted : Reduction → MovieSeen → Walk → ℕ → Planning → Planning → Stop → Place
    → List Row → Stretches → Stretches → Type 0
HandNoted l m w room before after stop place rows told told_after =
    (fed : HandFed l m w room before after stop place)
    × (take (length fed.done) rows ≡ map row_seen fed.done) × JoinsOn told told_after fed.done
