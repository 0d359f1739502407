-- Pairs of samples that are the same are passed.
use Rattle.std.proofs.Common.{◌≡◌, ℕ, zero, suc, ◌+◌, ◌<◌, ◌≤◌, Bool, true, false, if◌then◌else◌, List, [], ◌∷◌, ◌++◌, length, drop, slice_index_or, Option, Some, refl, sym, ap, subst, ◌∙◌, arith}
use Rattle.std.specs.Prelude.{ℤ}
use Rattle.std.specs.List.{slice_get}
use Rattle.std.proofs.lemmas.Bool.{eq-eqb}
use Rattle.std.proofs.lemmas.List.{drop-append-le}
use Rattle.mp4_store.specs.words.Device.{range}
use Rattle.mp4_tables.specs.words.Keys.{key_seen, keys_seen, key_place}
use Rattle.mp4_tables.specs.declared.keys.GroupKey.{GroupKey}
use Rattle.mp4_tables.specs.declared.keys.Keys.{Keys}
use Rattle.mp4_tables.specs.declared.sample.SampleAt.{SampleAt}
use Rattle.mp4_head.specs.format.Tree.{TrackTree}
use Rattle.mp4_present.specs.format.Denotes.{FileTree}
use Rattle.mp4_content.specs.format.Differences.{differ, numbers_differ, signed, first_unequal, byte_at, each_differ}
use Rattle.mp4_content.specs.words.Differing.{index_in, group_differences, differences_at, pair_differences}
use Rattle.mp4_content.specs.words.ComingLess.{cto_left, flags_left, lasts_left}
use Rattle.mp4_present.specs.words.InHand.{left_in_hand, Follows, IsPlaceOf}
use Rattle.mp4_present.specs.words.Movies.{MovieSeen, InHandOf}
use Rattle.mp4_content.specs.words.SamePairs.{indexes_differ, IsSamePair, BeginSame, SaySame}
use Rattle.mp4_present.specs.words.SamplesComing.{Comes, samples_behind}
use Rattle.mp4_content.specs.words.Windows.{Shows}
use Rattle.mp4_content.specs.declared.comparing.pairing.Pairing.{Pairing}
use Rattle.mp4_content.specs.declared.comparing.differences.Difference.{Difference}
use Rattle.mp4_content.specs.declared.comparing.differences.Field.{Field}
use Rattle.mp4_content.specs.declared.comparing.differences.Field.TheVariants as fields
use Rattle.mp4_content.specs.declared.comparing.differences.Subject.{Subject}
use Rattle.mp4_content.specs.declared.comparing.differences.Subject.TheVariants as subjects
use Rattle.mp4_content.specs.declared.file_window.FileWindow.{FileWindow}
use Rattle.mp4_present.specs.declared.walking.in_hand.InHand.{InHand}
use Rattle.mp4_present.specs.declared.walking.in_hand.Place.{Place}
use Rattle.mp4_present.specs.declared.walking.Walk.{Walk}
use Rattle.mp4_content.proofs.Differing.{at_drop, nowhere_same}
use Rattle.mp4_present.proofs.GoneBack.{hand_later}
use Rattle.mp4_present.proofs.WalkCopied.{hand_one, kept_before}
use Rattle.mp4_boxes.proofs.Plain.{suc_is}
use Rattle.mp4_content.proofs.ComparisonValues.{signed_self}

-- ---- values that are the same

pub none_of_numbers : (of : Subject) (field : Field) (a b : ℕ) → a ≡ b → numbers_differ of field a b ≡ []
unfolding differ
none_of_numbers of field a b e = rw (eq-eqb a b e) refl

none_of_itself : (of : Subject) (field : Field) (a : ℤ) → signed of field a a ≡ []
unfolding differ
none_of_itself of field a = rw (signed_self a) refl

none_of_signed : (of : Subject) (field : Field) (a b : ℤ) → a ≡ b → signed of field a b ≡ []
none_of_signed of field a b e = subst (λ (c : ℤ). signed of field a c ≡ []) e (none_of_itself of field a)

-- of nothing
nothing_joined : (a b c d g s : List Difference) → a ≡ [] → b ≡ [] → c ≡ [] → d ≡ [] → g ≡ [] → s ≡ [] → a ++ b ++ c ++ d ++ g ++ s ≡ []
nothing_joined a b c d g s ea eb ec ed eg es = λ i. ea i ++ eb i ++ ec i ++ ed i ++ eg i ++ es i

pub none_said : (by : Pairing) (of : Subject) (x y : SampleAt) → lasts_left by.left_reduction x.number x.duration ≡ lasts_left by.right_reduction y.number y.duration → cto_left by.left_reduction x.cto ≡ cto_left by.right_reduction y.cto
    → flags_left by.left_reduction x.flags ≡ flags_left by.right_reduction y.flags → x.description ≡ y.description → group_differences of by.keys.items by.left x by.right y ≡ [] → x.size ≡ y.size → differences_at by of x y ≡ []
none_said by of x y ed eo ef ei eg es =
    nothing_joined _ _ _ _ _ _ (none_of_numbers of _ _ _ ed) (none_of_signed of _ _ _ eo) (none_of_numbers of _ _ _ ef) (none_of_numbers of _ _ _ ei) eg (none_of_numbers of _ _ _ es)

no_byte : (of : Subject) (f : ℕ → Field) (v : Bool) (xs ys : List ℕ) → xs ≡ ys → (if v then byte_at of f (first_unequal 0 xs ys) else []) ≡ []
no_byte of f true xs ys e = ap (byte_at of f) (sym (nowhere_same 0 xs ys e))
no_byte of f false xs ys e = refl

-- one key more at which both have the same index
pub index_more : (of : Subject) (keys : List GroupKey) (k : ℕ) (key : GroupKey) (lk : Keys) (a : List ℕ) (rk : Keys) (b : List ℕ) → k < length keys → key ≡ slice_index_or keys k key
    → index_in (key_place (key_seen key) (keys_seen lk)) a ≡ index_in (key_place (key_seen key) (keys_seen rk)) b → indexes_differ of (drop (k + 1) keys) lk a rk b ≡ indexes_differ of (drop k keys) lk a rk b
index_more of keys k key lk a rk b lt is same =
    let none = none_of_numbers of (fields.Group key) _ _ same in
    let on : k + 1 ≡ suc k = omega arith in
    sym (ap (λ (ks : List GroupKey). indexes_differ of ks lk a rk b) (at_drop keys k key lt is) ∙ (λ i. none i ++ indexes_differ of (drop (sym on i) keys) lk a rk b))

-- ---- pair after pair

some_is : (x y : SampleAt) → ◌≡◌ {A = Option SampleAt} (Some x) (Some y) → x ≡ y
some_is x y e = cc

module _ (by : Pairing) (w v : FileWindow) where
  -- what two samples say, and their bytes
  pub same_pair : (x y : SampleAt) → SaySame by x y → ((file other : List ℕ) → Shows file w → Shows other v → range file x.at x.size ≡ range other y.at x.size) → IsSamePair by w v x y
  same_pair x y said bytes file other number p q =
      let of = subjects.Sample by.track number in
      let none = said.none of in
      let no = no_byte of (λ (k : ℕ). fields.Byte k x.size) _ _ _ (bytes file other p q) in
      λ i. none i ++ no i

  more_same : (n : ℕ) (xs ys : List SampleAt) (x y : SampleAt) → BeginSame by w v n xs ys → ◌≡◌ {A = Option SampleAt} (Some x) (slice_get (drop n xs) 0) → ◌≡◌ {A = Option SampleAt} (Some y) (slice_get (drop n ys) 0) → IsSamePair by w v x y → BeginSame by w v (suc n) xs ys
  more_same zero [] ys x y h e f p = absurd cc
  more_same zero (a ∷ xs) [] x y h e f p = absurd cc
  more_same zero (a ∷ xs) (b ∷ ys) x y h e f p = (subst (λ (s : SampleAt). IsSamePair by w v s b) (some_is x a e) (subst (λ (s : SampleAt). IsSamePair by w v x s) (some_is y b f) p), tt)
  more_same (suc n) [] ys x y h e f p = absurd h
  more_same (suc n) (a ∷ xs) [] x y h e f p = absurd h
  more_same (suc n) (a ∷ xs) (b ∷ ys) x y h e f p = (h.0, more_same n xs ys x y h.1 e f p)

  -- one pair more
  pub one_same : (n : ℕ) (xs ys now others : List SampleAt) (x y : SampleAt) → BeginSame by w v n xs ys → now ≡ drop n xs → others ≡ drop n ys → ◌≡◌ {A = Option SampleAt} (Some x) (slice_get now 0) → ◌≡◌ {A = Option SampleAt} (Some y) (slice_get others 0) → IsSamePair by w v x y
      → BeginSame by w v (n + 1) xs ys
  one_same n xs ys now others x y h e f g k p =
      subst (λ (m : ℕ). BeginSame by w v m xs ys) (suc_is n)
      (more_same n xs ys x y h (g ∙ ap (λ (ss : List SampleAt). slice_get ss 0) e) (k ∙ ap (λ (ss : List SampleAt). slice_get ss 0) f) p)

  pub same_within : (n : ℕ) (xs ys : List SampleAt) → BeginSame by w v n xs ys → (n ≤ length xs) × (n ≤ length ys)
  same_within zero xs ys h = (omega arith, omega arith)
  same_within (suc n) [] ys h = absurd h
  same_within (suc n) (a ∷ xs) [] h = absurd h
  same_within (suc n) (a ∷ xs) (b ∷ ys) h = let more = same_within n xs ys h.1 in let first = more.0 in let second = more.1 in (omega (arith, first), omega (arith, second))

  pub same_longer : (n : ℕ) (xs ys more others : List SampleAt) → BeginSame by w v n xs ys → BeginSame by w v n (xs ++ more) (ys ++ others)
  same_longer zero xs ys more others h = tt
  same_longer (suc n) [] ys more others h = absurd h
  same_longer (suc n) (a ∷ xs) [] more others h = absurd h
  same_longer (suc n) (a ∷ xs) (b ∷ ys) more others h = (h.0, same_longer n xs ys more others h.1)

  module _ (file other : List ℕ) (p : Shows file w) (q : Shows other v) where
    abbrev one : ℕ → SampleAt → SampleAt → List Difference
    one = pair_differences by file other

    -- what differs between two lists differs behind the pairs that are the same
    pub same_skipped : (n number : ℕ) (xs ys : List SampleAt) → BeginSame by w v n xs ys → each_differ one number xs ys ≡ each_differ one (number + n) (drop n xs) (drop n ys)
    same_skipped zero number xs ys h = let e : number ≡ number + 0 = omega arith in ap (λ (m : ℕ). each_differ one m xs ys) e
    same_skipped (suc n) number [] ys h = absurd h
    same_skipped (suc n) number (x ∷ xs) [] h = absurd h
    same_skipped (suc n) number (x ∷ xs) (y ∷ ys) h =
        let none = h.0 file other number p q in
        let more = same_skipped n (suc number) xs ys h.1 in
        let e : suc number + n ≡ number + suc n = omega arith in
        (λ i. none i ++ more i) ∙ ap (λ (m : ℕ). each_differ one m (drop n xs) (drop n ys)) e

-- ---- what is in hand

-- the samples that come are those in hand, and those behind
abbrev behind : (file : List ℕ) (tree : FileTree) (t : TrackTree) (m : MovieSeen) (w : Walk) (samples : List SampleAt) → Comes file tree t m w samples → List SampleAt
behind file tree t m w samples k = samples_behind tree t k.0 k.1

module _ (file : List ℕ) (tree : FileTree) (t : TrackTree) (m : MovieSeen) (w : Walk) (a : InHand) (samples : List SampleAt) (hand : InHandOf m w a) (k : Comes file tree t m w samples) where
  pub come_are : samples ≡ left_in_hand a ++ behind file tree t m w samples k
  come_are = k.3.2 ∙ ap (λ (h : InHand). left_in_hand h ++ behind file tree t m w samples k) (hand_one m w k.2 a k.3.1 hand)

  -- so many of those in hand are passed
  pub come_later : (b : InHand) (p : Place) (n : ℕ) → Follows a b → IsPlaceOf b p → left_in_hand b ≡ drop n (left_in_hand a) → n ≤ length (left_in_hand a) → Comes file tree t m (record w { place = p }) (drop n samples)
  come_later b p n later at rest le =
      let gone : drop n samples ≡ left_in_hand b ++ behind file tree t m w samples k =
      ap (λ (ss : List SampleAt). drop n ss) come_are ∙ drop-append-le n (left_in_hand a) (behind file tree t m w samples k) le ∙ ap (λ (ss : List SampleAt). ss ++ behind file tree t m w samples k) (sym rest) in
      (k.0, k.1, b, (kept_before file tree t k.0 k.1 w p k.3.0, hand_later m w a b p hand later at, gone))

-- what begins alike in hand does so in all that comes
pub same_come : (by : Pairing) (one two : FileWindow) (file other : List ℕ) (tree other_tree : FileTree) (t u : TrackTree) (m n : MovieSeen) (w v : Walk) (a b : InHand) (count : ℕ) (xs ys : List SampleAt) → InHandOf m w a → InHandOf n v b → Comes file tree t m w xs → Comes other other_tree u n v ys
    → BeginSame by one two count (left_in_hand a) (left_in_hand b) → BeginSame by one two count xs ys
same_come by one two file other tree other_tree t u m n w v a b count xs ys ha hb k l h =
    let first = come_are file tree t m w a xs ha k in
    let second = come_are other other_tree u n v b ys hb l in
    subst (λ (ss : List SampleAt). BeginSame by one two count ss ys) (sym first)
    (subst (λ (ss : List SampleAt). BeginSame by one two count (left_in_hand a ++ behind file tree t m w xs k) ss) (sym second) (same_longer by one two count (left_in_hand a) (left_in_hand b) _ _ h))
