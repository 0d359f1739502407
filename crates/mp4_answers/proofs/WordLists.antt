-- Lists of words of `--without`, read and printed.
use Rattle.std.proofs.Common.{◌≡◌, ◌⊎◌, inl, inr, ℕ, Bool, true, false, ◌&&◌, ◌||◌, ◌==◌, List, [], ◌∷◌, ◌++◌, refl, sym, ap, ◌∙◌, None, Some, Option}
use Rattle.std.proofs.lemmas.Bool.{eq-eqb}
use Rattle.std.proofs.lemmas.List.{append-nil}
use Rattle.std.specs.Prelude.{bytes_eq, codes, if◌then◌else◌, not}
use Rattle.std.specs.List.{list_any}
use Rattle.mp4_content.specs.declared.without.Word.{Word}
use Rattle.mp4_content.specs.declared.without.Word.TheVariants as words
use Rattle.mp4_content.specs.declared.without.Without.{Without}
use Rattle.mp4_content.specs.format.ReducedLaws.{both, nothing}
use Rattle.mp4_content.specs.format.Words.{all_words, each, has, word_name, word_number}
use Rattle.mp4_content.proofs.Words.{by_words, each_has, same_number}
use Rattle.mp4_answers.specs.format.LastLine.{leaving_text, words_text}
use Rattle.mp4_answers.specs.format.WordLists.{also, is_listed, meant_by, media_1, media_2, named_in, only_these, packaging_1, packaging_2, put_first, word_meant, words_of, words_meant, leaving_of, IsCut, ListsLeaveOut, WordsReadBack}
use Rattle.mp4_boxes.proofs.Plain.{and_false, or_false, or_is_false}

-- ---- words between commas

abbrev Lacks : ℕ → List ℕ → Type 0
Lacks at word = list_any (λ b. b == at) word ≡ false

pub words_cut : (front rest : List ℕ) → Lacks 44 front → words_of (front ++ 44 ∷ rest) ≡ front ∷ words_of rest
words_cut [] rest n = refl
words_cut (b ∷ bytes) rest n =
    let o = or_is_false (b == 44) (list_any (λ b. b == 44) bytes) n in
    rw o.0 (ap (put_first b) (words_cut bytes rest o.1))

pub word_alone : (word : List ℕ) → Lacks 44 word → words_of word ≡ word ∷ []
word_alone [] n = refl
word_alone (b ∷ bytes) n =
    let o = or_is_false (b == 44) (list_any (λ b. b == 44) bytes) n in
    rw o.0 (ap (put_first b) (word_alone bytes o.1))

-- ---- what several words leave out

or_through : (a b c : Bool) → (a || (b || c)) ≡ ((a || b) || c)
or_through true b c = refl
or_through false b c = refl

both_through : (k l m : Without) → both k (both l m) ≡ both (both k l) m
both_through k l m = λ i. each (λ w. or_through (has k w) (has l w) (has m w) i)

both_nothing : (l : Without) → both l nothing ≡ l
both_nothing l = λ i. each (λ w. or_false (has l w) i)

and_all : (a : Bool) → (a && true) ≡ a
and_all true = refl
and_all false = refl

-- the same word once more
one_more : (a b c : Bool) → a ≡ b → ((a && true) || (b && c)) ≡ (b && true)
one_more true true c e = refl
one_more true false c e = absurd cc
one_more false true c e = absurd cc
one_more false false c e = refl

also_through : (l m : Without) (o : Option Without) → also (Some l) (also (Some m) o) ≡ also (Some (both l m)) o
also_through l m None = refl
also_through l m (Some n) = ap Some (both_through l m n)

-- ---- word by word

-- one more word is known
pub word_read : (l m : Without) (left front rest : List ℕ) (whole : Option Without) → IsCut 44 left front (Some rest) → word_meant front ≡ Some m
    → also (Some l) (words_meant (words_of left)) ≡ whole → also (Some (both l m)) (words_meant (words_of rest)) ≡ whole
word_read l m left front rest whole cut known so =
    sym (also_through l m (words_meant (words_of rest)))
    ∙ ap (λ o. also (Some l) (also o (words_meant (words_of rest)))) (sym known)
    ∙ ap (λ ws. also (Some l) (words_meant ws)) (sym (ap words_of cut.0 ∙ words_cut front rest cut.1))
    ∙ so

-- the last word is known
pub last_read : (l m : Without) (left front : List ℕ) (whole : Option Without) → IsCut 44 left front None → word_meant front ≡ Some m
    → also (Some l) (words_meant (words_of left)) ≡ whole → Some (both l m) ≡ whole
last_read l m left front whole cut known so =
    ap (λ x. Some (both l x)) (sym (both_nothing m))
    ∙ ap (λ o. also (Some l) (also o (Some nothing))) (sym known)
    ∙ ap (λ ws. also (Some l) (words_meant ws)) (sym (ap words_of (sym cut.0) ∙ word_alone front cut.1))
    ∙ so

-- a word is not known
pub none_read : (l : Without) (left front : List ℕ) (rest : Option (List ℕ)) (whole : Option Without) → IsCut 44 left front rest → word_meant front ≡ None
    → also (Some l) (words_meant (words_of left)) ≡ whole → None ≡ whole
none_read l left front None whole cut unknown so =
    ap (λ o. also (Some l) (also o (Some nothing))) (sym unknown)
    ∙ ap (λ ws. also (Some l) (words_meant ws)) (sym (ap words_of (sym cut.0) ∙ word_alone front cut.1))
    ∙ so
none_read l left front (Some rest) whole cut unknown so =
    ap (λ o. also (Some l) (also o (words_meant (words_of rest)))) (sym unknown)
    ∙ ap (λ ws. also (Some l) (words_meant ws)) (sym (ap words_of cut.0 ∙ words_cut front rest cut.1))
    ∙ so

-- ---- words that are printed

module _ (l : Without) where
  -- those that are left out
  abbrev left_out : List Word → List (List ℕ)
  left_out [] = []
  left_out (w ∷ ws) = if has l w then word_name w ∷ left_out ws else left_out ws

  lacks : (w : Word) → Lacks 44 (word_name w)
  lacks = by_words (λ w. Lacks 44 (word_name w)) refl refl refl refl refl refl refl refl refl refl refl refl refl refl

  -- behind a word
  printed_behind : (front : List ℕ) (ws : List Word) → Lacks 44 front → words_of (front ++ words_text l false ws) ≡ front ∷ left_out ws
  printed_behind front [] n = ap words_of (append-nil front) ∙ word_alone front n
  printed_behind front (w ∷ ws) n = by (λ name m. printed_behind name ws m) (has l w)
    where
      by : ((name : List ℕ) → Lacks 44 name → words_of (name ++ words_text l false ws) ≡ name ∷ left_out ws) → (b : Bool) → words_of (front ++ ((if b then codes "," ++ word_name w else []) ++ words_text l false ws)) ≡ front ∷ (if b then word_name w ∷ left_out ws else left_out ws)
      by others true = words_cut front (word_name w ++ words_text l false ws) n ∙ ap (λ xs. front ∷ xs) (others (word_name w) (lacks w))
      by others false = others front n

  -- none, or a list behind a space
  abbrev Printed : List (List ℕ) → List ℕ → Type 0
  Printed names text = (names ≡ []) ⊎ ((list : List ℕ) × (text ≡ codes " " ++ list) × (words_of list ≡ names))

  printed : (ws : List Word) → Printed (left_out ws) (words_text l true ws)
  printed [] = inl refl
  printed (w ∷ ws) = by (printed ws) (has l w)
    where
      by : Printed (left_out ws) (words_text l true ws) → (b : Bool) → Printed (if b then word_name w ∷ left_out ws else left_out ws) ((if b then codes " " ++ word_name w else []) ++ words_text l (true && not b) ws)
      by others true = inr (word_name w ++ words_text l false ws, refl, printed_behind (word_name w) ws (lacks w))
      by others false = others

  -- ---- what is printed leaves the same out

  known : (w : Word) → word_meant (word_name w) ≡ Some (only_these (w ∷ []))
  known = by_words (λ w. word_meant (word_name w) ≡ Some (only_these (w ∷ []))) refl refl refl refl refl refl refl refl refl refl refl refl refl refl

  all_listed : (w : Word) → is_listed all_words w ≡ true
  all_listed = by_words (λ w. is_listed all_words w ≡ true) refl refl refl refl refl refl refl refl refl refl refl refl refl refl

  mean : (ws : List Word) → words_meant (left_out ws) ≡ Some (each (λ v. has l v && is_listed ws v))
  mean [] = ap Some (λ i. each (λ v. sym (and_false (has l v)) i))
  mean (w ∷ ws) = by (mean ws) (has l w) refl
    where
      at : (b v_has : Bool) (v : Word) (same : Bool) → (word_number w == word_number v) ≡ same → has l w ≡ b
          → ((b && (same || false)) || (has l v && is_listed ws v)) ≡ (has l v && (same || is_listed ws v))
      at b v_has v true same e = one_more b (has l v) (is_listed ws v) (sym e ∙ ap (has l) (same_number w v same))
      at true v_has v false same e = refl
      at false v_has v false same e = refl

      by : words_meant (left_out ws) ≡ Some (each (λ v. has l v && is_listed ws v)) → (b : Bool) → has l w ≡ b → words_meant (if b then word_name w ∷ left_out ws else left_out ws) ≡ Some (each (λ v. has l v && (word_number w == word_number v || is_listed ws v)))
      by others true e = (λ i. also (known w i) (others i)) ∙ ap Some (λ i. each (λ v. at true true v (word_number w == word_number v) refl e i))
      by others false e = others ∙ ap Some (λ i. each (λ v. at false true v (word_number w == word_number v) refl e i))

  mean_all : words_meant (left_out all_words) ≡ Some l
  mean_all = mean all_words ∙ ap Some (λ i. each (λ v. (ap (λ b. has l v && b) (all_listed v) ∙ and_all (has l v)) i))

pub words_read_back : WordsReadBack
words_read_back l some = read (printed l all_words)
  where
    read : Printed l (left_out l all_words) (leaving_text l) → (list : List ℕ) × (leaving_text l ≡ codes " " ++ list) × (leaving_of list ≡ Some l)
    read (inl none) =
        let same : Some l ≡ Some nothing = sym (mean_all l) ∙ ap words_meant none in
        let e : l ≡ nothing = cc in
        absurd (some e)
    read (inr p) = (p.0, p.1, ap words_meant p.2 ∙ mean_all l)

-- ---- each word leaves something out

HasWord : List (List ℕ) → Type 0
HasWord words = (word : List ℕ) × (rest : List (List ℕ)) × (words ≡ word ∷ rest)

one_word : (b : ℕ) (c : Bool) (words : List (List ℕ)) → HasWord words → HasWord (if c then [] ∷ words else put_first b words)
unfolding HasWord
one_word b true words h = ([], words, refl)
one_word b false words h = (b ∷ h.0, h.1, ap (put_first b) h.2)

some_word : (list : List ℕ) → HasWord (words_of list)
unfolding HasWord
some_word [] = ([], [], refl)
some_word (b ∷ bytes) = one_word b (b == 44) (words_of bytes) (some_word bytes)

left_none : (l m : Without) → both l m ≡ nothing → l ≡ nothing
left_none l m e = λ i. each (λ w. (or_is_false (has l w) (has m w) (sym (each_has (λ v. has l v || has m v) w) ∙ ap (λ (x : Without). has x w) e ∙ each_has (λ v. false) w)).0 i)

also_none : (o p : Option Without) → (o ≡ Some nothing → ⊥) → also o p ≡ Some nothing → ⊥
also_none None p some e = absurd cc
also_none (Some l) None some e = absurd cc
also_none (Some l) (Some m) some e = let same : both l m ≡ nothing = cc in some (ap Some (left_none l m same))

some_left : (w : Word) (ws : List Word) → is_listed ws w ≡ true → only_these ws ≡ nothing → ⊥
some_left w ws is e =
    let none : true ≡ false = sym is ∙ sym (each_has (is_listed ws) w) ∙ ap (λ (x : Without). has x w) e ∙ each_has (λ v. false) w in
    absurd cc

none_meant : (o : Option Word) (a b c d : Bool) → meant_by o (if a then Some packaging_1 else if b then Some media_1 else if c then Some packaging_2 else if d then Some media_2 else None) ≡ Some nothing → ⊥
none_meant (Some w) a b c d e =
    let same : only_these (w ∷ []) ≡ nothing = cc in
    some_left w (w ∷ []) (ap (λ b. b || false) (eq-eqb (word_number w) (word_number w) refl)) same
none_meant None true b c d e = let same : only_these packaging_1 ≡ nothing = cc in some_left words.Times packaging_1 refl same
none_meant None false true c d e = let same : only_these media_1 ≡ nothing = cc in some_left words.Times media_1 refl same
none_meant None false false true d e = let same : only_these packaging_2 ≡ nothing = cc in some_left words.Times packaging_2 refl same
none_meant None false false false true e = let same : only_these media_2 ≡ nothing = cc in some_left words.Times media_2 refl same
none_meant None false false false false e = absurd cc

pub lists_leave_out : ListsLeaveOut
unfolding HasWord
lists_leave_out list e =
    let some = some_word list in
    let name = some.0 in
    also_none (word_meant name) (words_meant some.1) (none_meant (named_in all_words name) (bytes_eq name (codes "packaging-1")) (bytes_eq name (codes "media-1")) (bytes_eq name (codes "packaging-2")) (bytes_eq name (codes "media-2"))) (sym (ap words_meant some.2) ∙ e)
