use Rattle.std.specs.Prelude.{◌≡◌, ℕ, List, [], ◌∷◌, ◌++◌, codes, refl}
use Rattle.std.specs.Fmt.{digits}
use Rattle.serde_json.proofs.OnLiterals.{serde_json_on_literals}
use Rattle.serde_json.specs.Written.{compact_text}
use Rattle.mp4_boxes.specs.declared.refusal.Refusal.TheVariants as refusals
use Rattle.mp4_boxes.specs.declared.rule.Rule.TheVariants as rules
use Rattle.mp4_boxes.specs.declared.fault.Kind.TheVariants as kinds
use Rattle.mp4_present.proofs.Vectors.{p_presentation, p_samples}
use Rattle.mp4_head.proofs.Vectors.{p_track}
use Rattle.mp4_boxes.proofs.Vectors.{v1, v1_moov, v1_mvhd, v1-tiles, v1-moov-tiles}
use Rattle.mp4_answers.specs.format.BoxTexts.{BoxLines, box_line, without_fields}
use Rattle.mp4_answers.specs.format.Texts.{fault_line, sample_lines, sample_listing, show_value, spots}
use Rattle.mp4_answers.specs.declared.jobs.Form.TheVariants as forms
use Rattle.mp4_answers.specs.declared.jobs.Syntax.TheVariants as syntaxes

p-lines : sample_lines forms.Plain (record { head = p_track; start = 0; samples = p_samples }) []
    ≡ codes "1 0 0 512 00000000 1 5" ++ 10 ∷ codes "2 512 512 512 00010000 1 0" ++ 10 ∷ codes "3 1024 1024 512 00010000 1 7" ++ 10 ∷ []
unfolding digits
p-lines = refl

p-headed : sample_listing forms.Named (record { head = p_track; start = 0; samples = p_samples }) [] ≡ codes "number decode_time composition_time duration flags description size" ++ 10 ∷ sample_lines forms.Plain (record { head = p_track; start = 0; samples = p_samples }) []
unfolding digits
p-headed = refl

p-json : sample_listing forms.Json (record { head = p_track; start = 0; samples = p_samples }) (spots (733 ∷ 746 ∷ 746 ∷ []) (0 ∷ 1 ∷ 2 ∷ []))
    ≡ codes "{\"at\":733,\"composition_time\":0,\"decode_time\":0,\"description\":1,\"duration\":512,\"flags\":0,\"fragment\":0,\"number\":1,\"size\":5}" ++ 10
    ∷ codes "{\"at\":746,\"composition_time\":512,\"decode_time\":512,\"description\":1,\"duration\":512,\"flags\":65536,\"fragment\":1,\"number\":2,\"size\":0}" ++ 10
    ∷ codes "{\"at\":746,\"composition_time\":1024,\"decode_time\":1024,\"description\":1,\"duration\":512,\"flags\":65536,\"fragment\":2,\"number\":3,\"size\":7}" ++ 10 ∷ []
unfolding digits serde_json_on_literals
p-json = refl

p-show : compact_text (show_value p_presentation) ≡ codes "{\"mehd\":120,\"timescale\":1000,\"tracks\":[{\"bytes\":12,\"descriptions\":[\"mp4v\"],\"duration\":1536,\"edits\":[],\"handler\":\"vide\",\"id\":1,\"samples\":3,\"start\":0,\"timescale\":12800}]}"
unfolding digits serde_json_on_literals
p-show = refl

gap-line : fault_line (refusals.Fault (record { kind = kinds.Gap; box_type = codes "tfdt"; offset = 793 })) ≡ codes "refused: Gap in tfdt at 793"
unfolding digits
gap-line = refl

v1-boxes : BoxLines syntaxes.Text v1 (codes "moov 0 116" ++ 10 ∷ codes "  mvhd 8 108" ++ 10 ∷ [])
unfolding digits
v1-boxes = (
  v1_moov ∷ [],
  v1-tiles.tiles,
  (codes "moov 0 116" ++ 10 ∷ codes "  mvhd 8 108" ++ 10 ∷ []) ∷ [],
  ((codes "  mvhd 8 108" ++ 10 ∷ [], (v1_mvhd ∷ [], v1-moov-tiles.tiles, (codes "  mvhd 8 108" ++ 10 ∷ []) ∷ [], (refl, tt), refl), refl), tt),
  refl,
)

abbrev v1-moov : List ℕ
v1-moov = codes "{\"depth\":0,\"offset\":0,\"size\":116,\"type\":\"moov\"}" ++ 10 ∷ []

abbrev v1-mvhd : List ℕ
v1-mvhd = codes "{\"depth\":1,\"offset\":8,\"size\":108,\"type\":\"mvhd\"}" ++ 10 ∷ []

v1-json : BoxLines syntaxes.Json v1 (v1-moov ++ v1-mvhd)
unfolding digits serde_json_on_literals
v1-json = (v1_moov ∷ [], v1-tiles.tiles, (v1-moov ++ v1-mvhd) ∷ [], ((v1-mvhd, (v1_mvhd ∷ [], v1-moov-tiles.tiles, v1-mvhd ∷ [], (refl, tt), refl), refl), tt), refl)

abbrev some_uuid : List ℕ
some_uuid = 190 ∷ 122 ∷ 207 ∷ 203 ∷ 151 ∷ 169 ∷ 66 ∷ 232 ∷ 156 ∷ 113 ∷ 153 ∷ 148 ∷ 145 ∷ 227 ∷ 175 ∷ 172 ∷ []

-- a `uuid` in a `moov`, which the profile refuses there, with a byte behind its UUID
uuid-json : box_line (without_fields syntaxes.Json) rules.Movie 1 (record { kind = codes "uuid"; offset = 32; header = 8; payload = some_uuid ++ 0 ∷ [] })
    ≡ codes "{\"depth\":1,\"foreign\":true,\"offset\":32,\"size\":25,\"type\":\"uuid\",\"uuid\":\"be7acfcb-97a9-42e8-9c71-999491e3afac\"}" ++ 10 ∷ []
unfolding digits serde_json_on_literals
uuid-json = refl
