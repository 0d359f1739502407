-- The parts of a line.
use Rattle.std.proofs.Common.{◌≡◌, ◌⊎◌, inl, inr, ℕ, ℤ, pos, negsuc, ◌+ℤ◌, List, ◌++◌, refl, sym, ap, ◌∙◌, codes, decimal, append_assoc}
use Rattle.std.specs.Fmt.{signed_decimal}
use Rattle.serde_json.proofs.OnLiterals.{serde_json_on_literals}
use Rattle.serde_json.specs.Find.{of_integer}
use Rattle.serde_json.specs.Written.{number_text}
use Rattle.mp4_tables.specs.declared.sample.SampleAt.{SampleAt}
use Rattle.mp4_answers.specs.declared.jobs.Form.{Form}
use Rattle.mp4_answers.specs.declared.jobs.Form.TheVariants as forms
use Rattle.mp4_answers.specs.format.Texts.{line_feed, form_line, sample_at_line}

integer_text : (z : ℤ) → number_text (of_integer z) ≡ signed_decimal z
integer_text (pos n) = refl
integer_text (negsuc n) = refl

-- nine named fields, with the line feed behind them or inside
named_fields : (a b c d e f g h i : List ℕ)
    → codes "{\"at\":" ++ (a ++ (codes ",\"composition_time\":" ++ (b ++ (codes ",\"decode_time\":" ++ (c ++ (codes ",\"description\":" ++ (d ++ (codes ",\"duration\":" ++ (e ++ (codes ",\"flags\":" ++ (f ++ (codes ",\"fragment\":" ++ (g ++ (codes ",\"number\":" ++ (h
    ++ (codes ",\"size\":" ++ (i ++ codes "}\n")))))))))))))))))
    ≡ (codes "{\"at\":" ++ (a ++ (codes ",\"composition_time\":" ++ (b ++ (codes ",\"decode_time\":" ++ (c ++ (codes ",\"description\":" ++ (d ++ (codes ",\"duration\":" ++ (e ++ (codes ",\"flags\":" ++ (f ++ (codes ",\"fragment\":" ++ (g ++ (codes ",\"number\":" ++ (h
    ++ (codes ",\"size\":" ++ (i ++ codes "}")))))))))))))))))) ++ line_feed
named_fields a b c d e f g h i = simp append_assoc

-- nine named fields before other text
named_before : (a b c d e f g h i behind : List ℕ)
    → codes "{\"at\":" ++ (a ++ (codes ",\"composition_time\":" ++ (b ++ (codes ",\"decode_time\":" ++ (c ++ (codes ",\"description\":" ++ (d ++ (codes ",\"duration\":" ++ (e ++ (codes ",\"flags\":" ++ (f ++ (codes ",\"fragment\":" ++ (g ++ (codes ",\"number\":" ++ (h
    ++ (codes ",\"size\":" ++ (i ++ (codes "}\n" ++ behind))))))))))))))))))
    ≡ (codes "{\"at\":" ++ (a ++ (codes ",\"composition_time\":" ++ (b ++ (codes ",\"decode_time\":" ++ (c ++ (codes ",\"description\":" ++ (d ++ (codes ",\"duration\":" ++ (e ++ (codes ",\"flags\":" ++ (f ++ (codes ",\"fragment\":" ++ (g ++ (codes ",\"number\":" ++ (h
    ++ (codes ",\"size\":" ++ (i ++ codes "}\n")))))))))))))))))) ++ behind
named_before a b c d e f g h i behind = simp append_assoc

-- the fields of a sample as an object, joined from the last to the first
pub json_fields : (i time : ℕ) (offset : ℤ) (duration flags description size at fragment : ℕ)
    → codes "{\"at\":" ++ (decimal at ++ (codes ",\"composition_time\":" ++ (signed_decimal (pos time +ℤ offset) ++ (codes ",\"decode_time\":" ++ (decimal time ++ (codes ",\"description\":" ++ (decimal description ++ (codes ",\"duration\":" ++ (decimal duration ++ (codes ",\"flags\":"
    ++ (decimal flags ++ (codes ",\"fragment\":" ++ (decimal fragment ++ (codes ",\"number\":" ++ (decimal i ++ (codes ",\"size\":" ++ (decimal size ++ codes "}\n")))))))))))))))))
    ≡ form_line forms.Json i time offset duration flags description size (record { at = at; fragment = fragment })
unfolding serde_json_on_literals
json_fields i time offset duration flags description size at fragment =
    named_fields (decimal at) (signed_decimal (pos time +ℤ offset)) (decimal time) (decimal description) (decimal duration) (decimal flags) (decimal fragment) (decimal i) (decimal size)
    ∙ ap (λ (text : List ℕ). (codes "{\"at\":" ++ (decimal at ++ (codes ",\"composition_time\":" ++ (text ++ (codes ",\"decode_time\":" ++ (decimal time ++ (codes ",\"description\":" ++ (decimal description ++ (codes ",\"duration\":" ++ (decimal duration ++ (codes ",\"flags\":"
    ++ (decimal flags ++ (codes ",\"fragment\":" ++ (decimal fragment ++ (codes ",\"number\":" ++ (decimal i ++ (codes ",\"size\":" ++ (decimal size ++ codes "}")))))))))))))))))) ++ line_feed) (sym (integer_text (pos time +ℤ offset)))

-- the same before other text
pub json_fields_before : (i time : ℕ) (offset : ℤ) (duration flags description size at fragment : ℕ) (behind : List ℕ)
    → codes "{\"at\":" ++ (decimal at ++ (codes ",\"composition_time\":" ++ (signed_decimal (pos time +ℤ offset) ++ (codes ",\"decode_time\":" ++ (decimal time ++ (codes ",\"description\":" ++ (decimal description ++ (codes ",\"duration\":" ++ (decimal duration ++ (codes ",\"flags\":"
    ++ (decimal flags ++ (codes ",\"fragment\":" ++ (decimal fragment ++ (codes ",\"number\":" ++ (decimal i ++ (codes ",\"size\":" ++ (decimal size ++ (codes "}\n" ++ behind))))))))))))))))))
    ≡ form_line forms.Json i time offset duration flags description size (record { at = at; fragment = fragment }) ++ behind
json_fields_before i time offset duration flags description size at fragment behind =
    named_before (decimal at) (signed_decimal (pos time +ℤ offset)) (decimal time) (decimal description) (decimal duration) (decimal flags) (decimal fragment) (decimal i) (decimal size) behind
    ∙ ap (λ (text : List ℕ). text ++ behind) (json_fields i time offset duration flags description size at fragment)

-- the names of the columns change no line, nor does the `moof`
pub plain_lines : (form : Form) → (form ≡ forms.Plain) ⊎ (form ≡ forms.Named) → (i fragment : ℕ) (s : SampleAt) → sample_at_line form i fragment s ≡ sample_at_line forms.Plain i 0 s
plain_lines forms.Plain is i fragment s = refl
plain_lines forms.Named is i fragment s = refl
plain_lines forms.Json (inl e) i fragment s = absurd cc
plain_lines forms.Json (inr e) i fragment s = absurd cc
