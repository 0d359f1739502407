-- Words that leave the same of movies that may be told how long their tracks wait, as they are asked for: origins go with how tracks begin.
use Rattle.std.proofs.Common.{◌≡◌, Bool, true, false, ◌||◌, if◌then◌else◌, refl, sym, ap, subst, ◌∙◌}
use Rattle.mp4_boxes.proofs.Plain.{or_false, or_same, or_true}
use Rattle.mp4_content.specs.declared.without.Word.{Word}
use Rattle.mp4_content.specs.declared.without.Word.TheVariants as words
use Rattle.mp4_content.specs.declared.without.Without.{Without}
use Rattle.mp4_content.specs.format.CoveringLaws.{Covers}
use Rattle.mp4_content.specs.format.LeadIns.{words_told}
use Rattle.mp4_content.specs.format.Words.{has}
use Rattle.mp4_content.proofs.Words.{by_words}
use Rattle.mp4_answers.specs.words.Compares.{as_asked}
use Rattle.mp4_answers.proofs.WordSets.{within, within_at}

-- ---- whether origins are among words, and whether how tracks begin is

or_with : (x y : Bool) → x ≡ true → (y || x) ≡ x
or_with true y e = or_true y
or_with false y e = absurd cc

same_of_both : (x y : Bool) → (x || y) ≡ y → (y || x) ≡ x → y ≡ x
same_of_both true true e f = refl
same_of_both true false e f = absurd cc
same_of_both false true e f = absurd cc
same_of_both false false e f = refl

own_origins : (lead o x : Bool) → ((o || lead) || x) ≡ x → (o || (if lead then o else x)) ≡ (if lead then o else x)
own_origins true o x e = or_same o
own_origins false true x e = e
own_origins false false x e = refl

told_origins : (lead o x : Bool) → ((o || lead) || x) ≡ x → ((if lead then o else x) || lead) ≡ x
told_origins true true x e = e
told_origins true false x e = e
told_origins false o x e = or_false x

both_origins : (a b c d : Bool) → (a || c) ≡ c → (b || d) ≡ d → ((a || b) || (c || d)) ≡ (c || d)
both_origins true b true d e f = refl
both_origins true b false d e f = absurd cc
both_origins false true c true e f = sym (or_true c)
both_origins false true c false e f = absurd cc
both_origins false false c d e f = refl

have_origins : (o x : Bool) → ((o || true) || x) ≡ x → x ≡ true
have_origins true x e = sym e
have_origins false x e = sym e

inside_origins : (lead o x ko kl : Bool) → ((o || lead) || x) ≡ x → (ko || (if lead then o else x)) ≡ (if lead then o else x) → kl ≡ lead → ((ko || kl) || x) ≡ x
inside_origins true o x ko kl e f s = or_with x (ko || kl) (have_origins o x e)
inside_origins false o x ko kl e f s = ap (λ b. (ko || b) || x) s ∙ ap (λ b. b || x) (or_false ko) ∙ f

back_origins : (lead o x ko kl : Bool) → kl ≡ lead → (o || ko) ≡ ko → (ko || (if lead then o else x)) ≡ (if lead then o else x) → (ko || kl) ≡ x → ko ≡ (if lead then o else x)
back_origins true o x ko kl s f g h = same_of_both o ko f g
back_origins false o x ko kl s f g h = sym (or_false ko) ∙ ap (λ b. ko || b) (sym s) ∙ h

least_origins : (lead o x ko kl : Bool) → kl ≡ lead → (o || ko) ≡ ko → (x || (ko || kl)) ≡ (ko || kl) → ((if lead then o else x) || ko) ≡ ko
least_origins true o x ko kl s f g = f
least_origins false o x ko kl s f g = let same : (ko || kl) ≡ ko = ap (λ b. ko || b) s ∙ or_false ko in subst (λ b. (x || b) ≡ b) same g

-- ---- words that are enough

module _ (l m : Without) (c : Covers (words_told l) m) where
  at : (w : Word) → (has (words_told l) w || has m w) ≡ has m w
  at = within_at (has (words_told l)) (has m) c

  pub covers_asked : Covers l (as_asked l m)
  covers_asked =
      within (has l) (has (as_asked l m))
      (by_words (λ w. (has l w || has (as_asked l m) w) ≡ has (as_asked l m) w) (at words.Times) (at words.Edits) (at words.Flags) (at words.Groups) (at words.Metadata) (at words.Bitrates) (at words.Ends)
      (own_origins l.lead_ins l.origins m.origins (at words.Origins)) (at words.Labels) (at words.Timing) (at words.Roles) (at words.Ids) (at words.Timescales) (or_same l.lead_ins))

  pub told_asked : words_told (as_asked l m) ≡ record m { lead_ins = l.lead_ins }
  told_asked = λ i. record m { origins = told_origins l.lead_ins l.origins m.origins (at words.Origins) i; lead_ins = l.lead_ins }

  module _ (k : Without) (d : Covers l k) where
    -- as they are told, and lead-ins as the others have it
    abbrev pub told_as : Without
    told_as = record (words_told k) { lead_ins = m.lead_ins }

    here : (w : Word) → (has l w || has k w) ≡ has k w
    here = within_at (has l) (has k) d

    pub covers_told : Covers (words_told l) told_as
    covers_told =
        within (has (words_told l)) (has told_as)
        (by_words (λ w. (has (words_told l) w || has told_as w) ≡ has told_as w) (here words.Times) (here words.Edits) (here words.Flags) (here words.Groups) (here words.Metadata) (here words.Bitrates) (here words.Ends)
        (both_origins l.origins l.lead_ins k.origins k.lead_ins (here words.Origins) (here words.LeadIns)) (here words.Labels) (here words.Timing) (here words.Roles) (here words.Ids) (here words.Timescales) (at words.LeadIns))

    module _ (e : Covers k (as_asked l m)) where
      there : (w : Word) → (has k w || has (as_asked l m) w) ≡ has (as_asked l m) w
      there = within_at (has k) (has (as_asked l m)) e

      pub lead_same : k.lead_ins ≡ l.lead_ins
      lead_same = same_of_both l.lead_ins k.lead_ins (here words.LeadIns) (there words.LeadIns)

      pub inside_told : Covers told_as m
      inside_told =
          within (has told_as) (has m)
          (by_words (λ w. (has told_as w || has m w) ≡ has m w) (there words.Times) (there words.Edits) (there words.Flags) (there words.Groups) (there words.Metadata) (there words.Bitrates) (there words.Ends)
          (inside_origins l.lead_ins l.origins m.origins k.origins k.lead_ins (at words.Origins) (there words.Origins) lead_same) (there words.Labels) (there words.Timing) (there words.Roles) (there words.Ids) (there words.Timescales) (or_same m.lead_ins))

      pub same_asked : told_as ≡ m → k ≡ as_asked l m
      same_asked f = λ i. record {
        times = (f i).times;
        edits = (f i).edits;
        flags = (f i).flags;
        groups = (f i).groups;
        metadata = (f i).metadata;
        bitrates = (f i).bitrates;
        ends = (f i).ends;
        origins = back_origins l.lead_ins l.origins m.origins k.origins k.lead_ins lead_same (here words.Origins) (there words.Origins) (ap (λ (w : Without). w.origins) f) i;
        labels = (f i).labels;
        timing = (f i).timing;
        roles = (f i).roles;
        ids = (f i).ids;
        timescales = (f i).timescales;
        lead_ins = lead_same i;
      }

    pub among_asked : Covers m told_as → k.lead_ins ≡ l.lead_ins → Covers (as_asked l m) k
    among_asked e s =
        let on = within_at (has m) (has told_as) e in
        within (has (as_asked l m)) (has k)
        (by_words (λ w. (has (as_asked l m) w || has k w) ≡ has k w) (on words.Times) (on words.Edits) (on words.Flags) (on words.Groups) (on words.Metadata) (on words.Bitrates) (on words.Ends)
        (least_origins l.lead_ins l.origins m.origins k.origins k.lead_ins s (here words.Origins) (on words.Origins)) (on words.Labels) (on words.Timing) (on words.Roles) (on words.Ids) (on words.Timescales) (here words.LeadIns))
