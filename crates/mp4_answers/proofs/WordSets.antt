-- Sets of words of `--without`: which are within which, and what is left where all are taken away that can be.
use Rattle.std.proofs.Common.{◌≡◌, inl, inr, Bool, true, false, ◌||◌, ◌&&◌, ◌==◌, List, [], ◌∷◌, refl, sym, ap, subst, ◌∙◌}
use Rattle.std.proofs.lemmas.Bool.{eq-eqb}
use Rattle.std.specs.Prelude.{not}
use Rattle.std.specs.List.{AllByRecursion}
use Rattle.mp4_content.specs.declared.comparing.differences.Difference.{Difference}
use Rattle.mp4_content.specs.declared.without.Word.{Word}
use Rattle.mp4_content.specs.declared.without.Without.{Without}
use Rattle.mp4_content.specs.format.CoveringLaws.{Covers}
use Rattle.mp4_content.specs.format.ReducedLaws.{both}
use Rattle.mp4_content.specs.format.Words.{each, has, word_number}
use Rattle.mp4_content.proofs.Words.{by_words, each_has, same_number, same_words}
use Rattle.mp4_answers.specs.format.WordLists.{is_listed}
use Rattle.mp4_answers.specs.words.Compares.{IsShrunk}
use Rattle.mp4_answers.specs.words.SingleWords.{everything, less_word, single_words}
use Rattle.mp4_boxes.proofs.Plain.{or_same, or_true}
use Rattle.mp4_content.proofs.TimescalesWords.{covers_itself}

-- what both leave out
abbrev pub common : Without → Without → Without
common l m = each (λ word. has l word && has m word)

-- ---- words that are listed

-- what is so of all of them is so of each
pub of_listed : (P : Word → Type 0) (words : List Word) → AllByRecursion P words → (w : Word) → is_listed words w ≡ true → P w
of_listed P [] h w e = absurd cc
of_listed P (v ∷ words) h w e = by (of_listed P words h.1 w) (word_number v == word_number w) refl e
  where
    by : (is_listed words w ≡ true → P w) → (b : Bool) → (word_number v == word_number w) ≡ b → (b || is_listed words w) ≡ true → P w
    by others true same e = subst P (same_number v w same) h.0
    by others false same e = others e

single_listed : (w : Word) → is_listed single_words w ≡ true
single_listed = by_words (λ w. is_listed single_words w ≡ true) refl refl refl refl refl refl refl refl refl refl refl refl refl refl

-- ---- one word of several sets

-- it stays if it isn't taken away, or was given
abbrev stays : Bool → Bool → Bool → Bool
stays given l taken = l && (given || not taken)

or_through : (a b c : Bool) → (a || b) ≡ b → (b || c) ≡ c → (a || c) ≡ c
or_through true true c e f = f
or_through true false c e f = absurd cc
or_through false b c e f = refl

or_twice : (a b : Bool) → (a || (a || b)) ≡ (a || b)
or_twice true b = refl
or_twice false b = refl

and_left : (a b : Bool) → ((a && b) || a) ≡ a
and_left true b = or_true b
and_left false b = refl

and_right : (a b : Bool) → ((a && b) || b) ≡ b
and_right true b = or_same b
and_right false b = refl

in_both : (l a b : Bool) → (l || a) ≡ a → (l || b) ≡ b → (l || (a && b)) ≡ (a && b)
in_both true true b e f = f
in_both true false b e f = absurd cc
in_both false a b e f = refl

stays_given : (given l s : Bool) → (given || l) ≡ l → (given || stays given l s) ≡ stays given l s
stays_given true true s e = refl
stays_given true false s e = absurd cc
stays_given false l s e = refl

stays_within : (given l m s : Bool) → (l || m) ≡ m → (stays given l s || stays given m s) ≡ stays given m s
stays_within given true true s e = or_same (given || not s)
stays_within given true false s e = absurd cc
stays_within given false m s e = refl

stays_once : (given l m s : Bool) → (l || stays given m s) ≡ stays given m s → stays given l s ≡ l
stays_once true true m s e = refl
stays_once true false m s e = refl
stays_once false true true true e = absurd cc
stays_once false true false true e = absurd cc
stays_once false true m false e = refl
stays_once false false m s e = refl

stays_there : (given l : Bool) → (l && not given) ≡ false → stays given l true ≡ l
stays_there true true e = refl
stays_there false true e = absurd cc
stays_there given false e = refl

stays_else : (given l : Bool) → stays given l false ≡ l
stays_else given true = or_true given
stays_else given false = refl

stays_apart : (given k l s : Bool) → (k || l) ≡ l → (s && k) ≡ false → (k || stays given l s) ≡ stays given l s
stays_apart given true true true e f = absurd cc
stays_apart given true true false e f = sym (or_true given)
stays_apart given true false s e f = absurd cc
stays_apart given false l s e f = refl

-- a word that can't be taken away is among all others that do
needed : (given k l : Bool) → (given || k) ≡ k → (k || l) ≡ l → (k ≡ false → stays given l true ≡ l) → k ≡ l
needed given true true c d f = refl
needed given true false c d f = absurd cc
needed true false l c d f = absurd cc
needed false false true c d f = let no : false ≡ true = f refl in absurd cc
needed false false false c d f = refl

-- ---- sets of words within others

pub within : (f g : Word → Bool) → ((w : Word) → (f w || g w) ≡ g w) → Covers (each f) (each g)
within f g h = λ i. each (λ w. h w i)

-- what is within something has no other words
pub within_at : (f g : Word → Bool) → Covers (each f) (each g) → (w : Word) → (f w || g w) ≡ g w
within_at f g c w = sym (each_has (λ v. f v || g v) w) ∙ ap (λ (x : Without). has x w) c ∙ each_has g w

covers_through : (k l m : Without) → Covers k l → Covers l m → Covers k m
covers_through k l m c d = within (has k) (has m) (λ w. or_through (has k w) (has l w) (has m w) (within_at (has k) (has l) c w) (within_at (has l) (has m) d w))

pub covers_all : (l : Without) → Covers l everything
covers_all l = within (has l) (λ w. true) (λ w. or_true (has l w))

pub covers_both : (l m : Without) → Covers l (both l m)
covers_both l m = within (has l) (λ w. has l w || has m w) (λ w. or_twice (has l w) (has m w))

module _ (k m : Without) where
  pub common_first : Covers (common k m) k
  common_first = within (λ w. has k w && has m w) (has k) (λ w. and_left (has k w) (has m w))

  pub common_second : Covers (common k m) m
  common_second = within (λ w. has k w && has m w) (has m) (λ w. and_right (has k w) (has m w))

  pub covers_common : (l : Without) → Covers l k → Covers l m → Covers l (common k m)
  covers_common l c d = within (has l) (λ w. has k w && has m w) (λ w. in_both (has l w) (has k w) (has m w) (within_at (has l) (has k) c w) (within_at (has l) (has m) d w))

-- ---- less by a word

module _ (given l : Without) (v : Word) where
  abbrev left : Word → Bool
  left w = stays (has given w) (has l w) (word_number w == word_number v)

  covers_less : Covers given l → Covers given (less_word given l v)
  covers_less c = within (has given) left (λ w. stays_given (has given w) (has l w) (word_number w == word_number v) (within_at (has given) (has l) c w))

  less_covered : Covers (less_word given l v) l
  less_covered = within left (has l) (λ w. and_left (has l w) (has given w || not (word_number w == word_number v)))

  module _ (m : Without) where
    abbrev other_left : Word → Bool
    other_left w = stays (has given w) (has m w) (word_number w == word_number v)

    less_within : Covers l m → Covers (less_word given l v) (less_word given m v)
    less_within c = within left other_left (λ w. stays_within (has given w) (has l w) (has m w) (word_number w == word_number v) (within_at (has l) (has m) c w))

    -- what is within something without a word is so without it
    less_once : Covers l (less_word given m v) → less_word given l v ≡ l
    less_once c = λ i. each (λ w. stays_once (has given w) (has l w) (has m w) (word_number w == word_number v) (within_at (has l) other_left c w) i)

  -- a word that was given, or isn't there, can't be taken away
  pub none_to_less : (has l v && not (has given v)) ≡ false → less_word given l v ≡ l
  none_to_less out = λ i. each (λ w. by w (word_number w == word_number v) refl i)
    where
      by : (w : Word) (b : Bool) → (word_number w == word_number v) ≡ b → stays (has given w) (has l w) b ≡ has l w
      by w true same = stays_there (has given w) (has l w) (subst (λ (x : Word). (has l x && not (has given x)) ≡ false) (sym (same_number w v same)) out)
      by w false same = stays_else (has given w) (has l w)

-- what hasn't a word is within something without it
less_apart : (v : Word) (given k l : Without) → has k v ≡ false → Covers k l → Covers k (less_word given l v)
less_apart v given k l out c = within (has k) (left given l v)
    (λ w. stays_apart (has given w) (has k w) (has l w) (word_number w == word_number v) (within_at (has k) (has l) c w) (by w (word_number w == word_number v) refl))
  where
    by : (w : Word) (b : Bool) → (word_number w == word_number v) ≡ b → (b && has k w) ≡ false
    by w true same = ap (has k) (same_number w v same) ∙ out
    by w false same = refl

-- ---- words that are taken away one after the other

module _ (given : Without) (differ : Without → List Difference) (more_same : (s t : Without) → Covers s t → differ s ≡ [] → differ t ≡ []) where
  -- what is left is enough, and within the first
  pub shrunk : (words : List Word) (l least : Without) → Covers given l → differ l ≡ [] → IsShrunk words given differ l least → Covers given least × (differ least ≡ []) × Covers least l
  unfolding IsShrunk
  shrunk [] l least c e h = subst (λ (x : Without). Covers given x × (differ x ≡ []) × Covers x l) (sym h) (c, e, covers_itself l)
  shrunk (w ∷ words) l least c e (next, inl h, rest) =
      let r = shrunk words next least (subst (Covers given) (sym h.0) (covers_less given l w c)) (h.1 e) rest in
      (r.0, r.1, covers_through least next l r.2 (subst (λ (x : Without). Covers x l) (sym h.0) (less_covered given l w)))
  shrunk (w ∷ words) l least c e (next, inr h, rest) =
      let r = shrunk words next least (subst (Covers given) (sym h.0) c) (subst (λ (x : Without). differ x ≡ []) (sym h.0) e) rest in
      (r.0, r.1, subst (Covers least) h.0 r.2)

  -- where some of it are enough without a word, what is left hasn't that word
  all_tried : (words : List Word) (l least k : Without) → Covers given l → differ l ≡ [] → IsShrunk words given differ l least → differ k ≡ [] → AllByRecursion (λ (w : Word). Covers k (less_word given least w) → less_word given least w ≡ least) words
  unfolding IsShrunk
  all_tried [] l least k c e h f = tt
  all_tried (w ∷ words) l least k c e (next, inl h, rest) f =
      let d = subst (Covers given) (sym h.0) (covers_less given l w c) in
      let within = (shrunk words next least d (h.1 e) rest).2 in
      (λ fit. less_once given least w l (subst (Covers least) h.0 within), all_tried words next least k d (h.1 e) rest f)
  all_tried (w ∷ words) l least k c e (next, inr h, rest) f =
      let d = subst (Covers given) (sym h.0) c in
      let same = subst (λ (x : Without). differ x ≡ []) (sym h.0) e in
      let within = subst (Covers least) h.0 (shrunk words next least d same rest).2 in
      (λ fit. absurd (h.1 (more_same k (less_word given l w) (covers_through k (less_word given least w) (less_word given l w) fit (less_within given least w l within)) f)), all_tried words next least k d same rest f)

  -- so none of what is left can be taken away
  pub none_to_take : (l least k : Without) → Covers given l → differ l ≡ [] → IsShrunk single_words given differ l least → Covers given k → Covers k least → differ k ≡ [] → k ≡ least
  none_to_take l least k c e h d i f =
      let all = of_listed (λ (w : Word). Covers k (less_word given least w) → less_word given least w ≡ least) single_words (all_tried single_words l least k c e h f) in
      same_words k least (λ w. needed (has given w) (has k w) (has least w) (within_at (has given) (has k) d w) (within_at (has k) (has least) i w)
      (λ out. sym (ap (stays (has given w) (has least w)) (eq-eqb (word_number w) (word_number w) refl)) ∙ sym (each_has (left given least w) w) ∙ ap (λ (x : Without). has x w) (all w (single_listed w) (less_apart w given k least out i))))
