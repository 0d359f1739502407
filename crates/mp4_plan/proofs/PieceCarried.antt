-- The bytes of a piece, taken along over the `moof`s that its samples are in.
use Rattle.std.proofs.Common.{◌≡◌, ℕ, zero, suc, ◌-◌, ◌≤◌, Bool, true, false, List, [], ◌∷◌, ◌++◌, length, take, drop, refl, sym, ap, subst, ◌∙◌, append_assoc, length-append, arith}
use Rattle.std.specs.List.{AllByRecursion}
use Rattle.std.proofs.lemmas.Grind.{flat_map-append}
use Rattle.std.proofs.lemmas.List.{take_at, drop_at, append-nil}
use Rattle.std.proofs.Math.Seq.{take-nil}
use Rattle.mp4_boxes.proofs.Joined.{all_first}
use Rattle.mp4_store.specs.words.Device.{TakesPrefix}
use Rattle.mp4_store.proofs.Known.{IsJoining}
use Rattle.mp4_tables.specs.declared.sample.SampleAt.{SampleAt}
use Rattle.mp4_frag.specs.words.OwnTrafs.{PlacedTraf}
use Rattle.mp4_head.specs.format.Tree.{TrackTree}
use Rattle.mp4_present.specs.words.Carried.{BytesGoOn}
use Rattle.mp4_present.specs.words.Joined.{IsBelow, sample_bytes}
use Rattle.mp4_present.specs.format.Denotes.{FileTree}
use Rattle.mp4_present.specs.words.SamplesComing.{Comes, Loads, StandsBefore, samples_behind}
use Rattle.mp4_present.specs.words.InHand.{Follows, IsPlaceOf, left_in_hand}
use Rattle.mp4_present.specs.words.Movies.{MovieSeen, InHandOf}
use Rattle.mp4_present.specs.words.OpenedMovie.{IsOpenedAs}
use Rattle.mp4_present.specs.declared.walking.in_hand.InHand.{InHand}
use Rattle.mp4_present.specs.declared.walking.in_hand.Place.{Place}
use Rattle.mp4_present.specs.declared.walking.Walk.{Walk}
use Rattle.mp4_present.proofs.Carrying.{BytesGoOn-then}
use Rattle.mp4_present.proofs.Hands.{bytes_of_two}
use Rattle.mp4_plan.specs.words.HandsFed.{BytesCarried, sizes_of}
use Rattle.mp4_plan.specs.words.CarriedSamples.{AreThere}
use Rattle.mp4_plan.specs.declared.carrying.Load.{Load}
use Rattle.mp4_plan.proofs.HandsCarried.{carried_front, carried_fails, load_is, next_below}
use Rattle.mp4_content.proofs.WalksOn.{hand_first, loads_on, loads_none, kept_coming}
use Rattle.mp4_tables.proofs.Sums.{sum_joined as sum-append}

-- The bytes of some samples that were to come are taken along, and the others still come.
abbrev pub CarriesOn : List ℕ → MovieSeen → Walk → Walk → (List ℕ → Type 0) → List ℕ → List ℕ → Load → Load → Type 0
CarriesOn file m begun w Took held held_after load left =
    (tree : FileTree) (t : TrackTree) (samples : List SampleAt) → IsOpenedAs file m tree → Comes file tree t m begun samples
    → (rest : List SampleAt) × (Comes file tree t m w rest × BytesCarried file Took held held_after samples rest load left)

-- samples behind them
pub carried_behind : (file : List ℕ) (Took : List ℕ → Type 0) (held held_b : List ℕ) (all to_come behind : List SampleAt) (load left : Load) → BytesCarried file Took held held_b all to_come load left
    → BytesCarried file Took held held_b (all ++ behind) (to_come ++ behind) load left
carried_behind file Took held held_b all to_come behind load left h =
    record { done = h.done; whole = ap (λ (ss : List SampleAt). ss ++ behind) h.whole ∙ append_assoc h.done to_come behind; count = h.count; sizes = h.sizes; bytes = h.bytes }

-- one after the other
pub carried_on : (file : List ℕ) {Y : Type 0} {takes : Y → Y → List ℕ → Type 0} (joins : IsJoining takes) (a b c : Y) (held held_b held_c : List ℕ) (all rest later : List SampleAt) (load left next : Load) → BytesCarried file (takes a b) held held_b all rest load left
    → BytesCarried file (takes b c) held_b held_c rest later left next → BytesCarried file (takes a c) held held_c all later load next
carried_on file joins a b c held held_b held_c all rest later load left next p q =
    let m = p.count in
    let n = q.count in
    let x = p.sizes in
    let y = q.sizes in
    record {
      done = p.done ++ q.done;
      whole = p.whole ∙ ap (λ (ss : List SampleAt). p.done ++ ss) q.whole ∙ sym (append_assoc p.done q.done later);
      count = omega (arith, m, n, length-append p.done q.done);
      sizes = omega (arith, x, y, sum-append (λ (s : SampleAt). s.size) p.done q.done);
      bytes = BytesGoOn-then joins a b c held held_b held_c (sample_bytes file p.done) (sample_bytes file q.done) (sample_bytes file (p.done ++ q.done)) p.bytes q.bytes (flat_map-append _ p.done q.done);
    }

-- all of them
pub carried_all : (file : List ℕ) (Took : List ℕ → Type 0) (held held_b : List ℕ) (all rest : List SampleAt) (load left : Load) → left.samples ≡ 0 → BytesCarried file Took held held_b all rest load left
    → BytesGoOn Took held held_b (sample_bytes file (take load.samples all)) × (rest ≡ drop load.samples all)
carried_all file Took held held_b all rest load left none h =
    let count = h.count in
    let n : load.samples ≡ length h.done = omega (arith, count, none) in
    let front : take load.samples all ≡ h.done = (λ i. take (n i) (h.whole i)) ∙ take_at h.done rest (length h.done) refl in
    let back : drop load.samples all ≡ rest = (λ i. drop (n i) (h.whole i)) ∙ drop_at h.done rest (length h.done) refl in
    (subst (λ (ss : List SampleAt). BytesGoOn Took held held_b (sample_bytes file ss)) (sym front) h.bytes, sym back)

-- the bytes of those in hand are taken along, and the walk goes on behind them
pub hand_carried : (file : List ℕ) (m : MovieSeen) (begun w now : Walk) {Y : Type 0} {takes : Y → Y → List ℕ → Type 0} (joins : IsJoining takes) (a b c : Y) (held held_b held_c : List ℕ) (load left next : Load) (hand later : InHand) (place : Place)
    → CarriesOn file m begun w (takes a b) held held_b load left
    → InHandOf m w hand → Follows hand later → IsPlaceOf later place → BytesCarried file (takes b c) held_b held_c (left_in_hand hand) (left_in_hand later) left next → now ≡ record w { place = place }
    → CarriesOn file m begun now (takes a c) held held_c load next
hand_carried file m begun w now {takes = takes} joins a b c held held_b held_c load left next hand later place on is_hand follows at bytes is tree t samples o h =
    let u = on tree t samples o h in
    let k = u.1.0 in
    let behind = samples_behind tree t k.0 k.1 in
    let whole = hand_first file m tree t w u.0 k hand is_hand in (
      left_in_hand later ++ behind,
      (
        subst (λ (w' : Walk). Comes file tree t m w' (left_in_hand later ++ behind)) (sym is) (kept_coming file m tree t w k.0 k.1 hand later place k.3.0 is_hand follows at),
        carried_on file joins a b c held held_b held_c samples u.0 (left_in_hand later ++ behind) load left next u.1.1
            (subst (λ (ss : List SampleAt). BytesCarried file (takes b c) held_b held_c ss (left_in_hand later ++ behind) left next) (sym whole) (carried_behind file (takes b c) held_b held_c (left_in_hand hand) (left_in_hand later) behind left next bytes)),
      ),
    )

-- what is loaded of a walk, whatever the file's tree is
abbrev pub LoadsFor : List ℕ → MovieSeen → Walk → Walk → Bool → Type 0
LoadsFor file m w next more = (tree : FileTree) (t : TrackTree) (earlier later : List PlacedTraf) → IsOpenedAs file m tree → StandsBefore file tree t earlier later w → Loads file tree t m (samples_behind tree t earlier later) next more

-- then nothing comes, where nothing was
abbrev pub EndsFor : List ℕ → MovieSeen → Walk → Walk → Bool → Type 0
EndsFor file m w next more =
    (tree : FileTree) (t : TrackTree) (earlier later : List PlacedTraf) → IsOpenedAs file m tree → StandsBefore file tree t earlier later w → (hand : InHand) → InHandOf m w hand → left_in_hand hand ≡ [] → more ≡ false → Comes file tree t m next []

-- more was loaded
pub next_carried : (file : List ℕ) (m : MovieSeen) (begun w next : Walk) (Took : List ℕ → Type 0) (held held_b : List ℕ) (load left : Load) (hand : InHand) (more : Bool) → CarriesOn file m begun w Took held held_b load left → InHandOf m w hand
    → left_in_hand hand ≡ [] → LoadsFor file m w next more → more ≡ true → CarriesOn file m begun next Took held held_b load left
next_carried file m begun w next Took held held_b load left hand more on is_hand none loads e tree t samples o h =
    let u = on tree t samples o h in
    let k = u.1.0 in
    (u.0, (loads_on file m tree t w next u.0 k hand is_hand none more e (loads tree t k.0 k.1 o k.3.0), u.1.1))

-- ---- where not all are taken along

-- the first of two lists
take_of_two : {A : Type 0} (n : ℕ) (xs ys : List A) → take n (xs ++ ys) ≡ take n xs ++ take (n - length xs) ys
take_of_two n [] ys = let e : n - 0 ≡ n = omega arith in λ i. sym (take-nil n) i ++ take (sym e i) ys
take_of_two zero (x ∷ xs) ys = let e : 0 - suc (length xs) ≡ 0 = omega arith in sym (ap (λ k. take k ys) e)
take_of_two (suc n) (x ∷ xs) ys = let e : suc n - suc (length xs) ≡ n - length xs = omega arith in ap (λ l. x ∷ l) (take_of_two n xs ys) ∙ sym (ap (λ k. x ∷ take n xs ++ take k ys) e)

-- what was put so far is a front of the bytes of the samples that were to be taken along
pub front_carried : (file : List ℕ) (m : MovieSeen) (begun w : Walk) (Took : List ℕ → Type 0) (held held_b : List ℕ) (load left : Load) → CarriesOn file m begun w Took held held_b load left
    → (tree : FileTree) (t : TrackTree) (samples : List SampleAt) → IsOpenedAs file m tree → Comes file tree t m begun samples → TakesPrefix Took (held ++ sample_bytes file (take load.samples samples))
front_carried file m begun w Took held held_b load left on tree t samples o h = let u = on tree t samples o h in carried_front file Took held held_b samples u.0 load left u.1.1

-- the bytes of those in hand are not taken along whole
pub hand_fails : (file : List ℕ) (m : MovieSeen) (begun w : Walk) {Y : Type 0} {takes : Y → Y → List ℕ → Type 0} (joins : IsJoining takes) (a b c : Y) (held held_b : List ℕ) (load left : Load) (hand : InHand) → CarriesOn file m begun w (takes a b) held held_b load left → InHandOf m w hand
    → TakesPrefix (takes b c) (held_b ++ sample_bytes file (take left.samples (left_in_hand hand)))
    → (tree : FileTree) (t : TrackTree) (samples : List SampleAt) → IsOpenedAs file m tree → Comes file tree t m begun samples → TakesPrefix (takes a c) (held ++ sample_bytes file (take load.samples samples))
hand_fails file m begun w joins a b c held held_b load left hand on is_hand p tree t samples o h =
    let u = on tree t samples o h in
    let k = u.1.0 in
    let xs = left_in_hand hand in
    let behind = samples_behind tree t k.0 k.1 in
    let n = left.samples in
    let two : take n u.0 ≡ take n xs ++ take (n - length xs) behind = ap (take n) (hand_first file m tree t w u.0 k hand is_hand) ∙ take_of_two n xs behind in
    carried_fails file joins a b held held_b samples u.0 load left u.1.1 c (sample_bytes file (take n xs)) (sample_bytes file (take (n - length xs) behind)) (ap (sample_bytes file) two ∙ bytes_of_two file (take n xs) (take (n - length xs) behind)) p

-- ---- an honest store has not changed

-- Those in hand lie in the file, and have no more bytes than are left.
pub hand_there : (file : List ℕ) (m : MovieSeen) (begun w : Walk) (Took : List ℕ → Type 0) (held held_b : List ℕ) (load left : Load) (hand : InHand) → CarriesOn file m begun w Took held held_b load left → InHandOf m w hand
    → (tree : FileTree) (t : TrackTree) (samples : List SampleAt) → IsOpenedAs file m tree → Comes file tree t m begun samples → AreThere file load.samples load.bytes samples
    → AllByRecursion (IsBelow (length file)) (left_in_hand hand) × (sizes_of (take left.samples (left_in_hand hand)) ≤ left.bytes)
hand_there file m begun w Took held held_b load left hand on is_hand tree t samples o h there =
    let u = on tree t samples o h in
    let k = u.1.0 in
    let xs = left_in_hand hand in
    let behind = samples_behind tree t k.0 k.1 in
    let n = left.samples in
    let first = hand_first file m tree t w u.0 k hand is_hand in
    let below = next_below file Took held held_b samples u.0 load left u.1.1 (length file) there.below in
    let size : SampleAt → ℕ = λ s. s.size in
    let two = ap sizes_of (ap (take n) first ∙ take_of_two n xs behind) ∙ sum-append size (take n xs) (take (n - length xs) behind) in
    let all = ap sizes_of (load_is file Took held held_b samples u.0 load left u.1.1) ∙ sum-append size u.1.1.done (take n u.0) in
    let before = u.1.1.sizes in
    let sizes = there.sizes in
    (all_first (IsBelow (length file)) xs behind (subst (λ (ss : List SampleAt). AllByRecursion (IsBelow (length file)) ss) first below), omega (arith, two, all, before, sizes))

-- none is left to be taken along, so no bytes are
pub no_bytes_left : (file : List ℕ) (m : MovieSeen) (begun w : Walk) (Took : List ℕ → Type 0) (held held_b : List ℕ) (load left : Load) → CarriesOn file m begun w Took held held_b load left → left.samples ≡ 0
    → (tree : FileTree) (t : TrackTree) (samples : List SampleAt) → IsOpenedAs file m tree → Comes file tree t m begun samples → AreThere file load.samples load.bytes samples → left.bytes ≡ 0
no_bytes_left file m begun w Took held held_b load left on none tree t samples o h there =
    let u = on tree t samples o h in
    let size : SampleAt → ℕ = λ s. s.size in
    let done = u.1.1.done in
    let nothing : take left.samples u.0 ≡ [] = ap (λ n. take n u.0) none in
    let all : sizes_of (take load.samples samples) ≡ sizes_of done = ap sizes_of (load_is file Took held held_b samples u.0 load left u.1.1 ∙ ap (λ (ss : List SampleAt). done ++ ss) nothing ∙ append-nil done) in
    let before = u.1.1.sizes in
    let sizes = there.sizes in
    omega (arith, all, before, sizes)

-- nothing more comes, so none is left to be taken along
pub none_left_to_carry : (file : List ℕ) (m : MovieSeen) (begun w next : Walk) (Took : List ℕ → Type 0) (held held_b : List ℕ) (load left : Load) (hand : InHand) (more : Bool) → CarriesOn file m begun w Took held held_b load left → InHandOf m w hand
    → left_in_hand hand ≡ [] → LoadsFor file m w next more → more ≡ false
    → (tree : FileTree) (t : TrackTree) (samples : List SampleAt) → IsOpenedAs file m tree → Comes file tree t m begun samples → AreThere file load.samples load.bytes samples → left.samples ≡ 0
none_left_to_carry file m begun w next Took held held_b load left hand more on is_hand none loads e tree t samples o h there =
    let u = on tree t samples o h in
    let k = u.1.0 in
    let z : u.0 ≡ [] = loads_none file m tree t w next u.0 k hand is_hand none more e (loads tree t k.0 k.1 o k.3.0) in
    let done = u.1.1.done in
    let whole : samples ≡ done = u.1.1.whole ∙ ap (λ (ss : List SampleAt). done ++ ss) z ∙ append-nil done in
    let long = ap (λ (ss : List SampleAt). length ss) whole in
    let count = u.1.1.count in
    let many = there.many in
    omega (arith, long, count, many)
