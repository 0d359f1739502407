-- The lines of samples as they are handed out.
use Rattle.std.specs.Prelude.{◌≡◌, ℕ, ◌==◌, if◌then◌else◌, List, [], ◌++◌, flat_map, decimal}
use Rattle.std.specs.Fmt.{signed_decimal}
use Rattle.sha2.specs.Sha256.{sha256}
use Rattle.mp4_boxes.specs.declared.refusal.Refusal.{Refusal}
use Rattle.mp4_boxes.specs.declared.refusal.Refusal.TheVariants as refusals
use Rattle.mp4_store.specs.words.Device.{HasRisen, range}
use Rattle.mp4_tables.specs.format.Groups.{GroupKey}
use Rattle.mp4_tables.specs.words.Keys.{key_place, keys_seen}
use Rattle.mp4_tables.specs.declared.keys.Keys.{Keys}
use Rattle.mp4_tables.specs.declared.sample.SampleAt.{SampleAt}
use Rattle.mp4_content.specs.words.ComingLess.{cto_left, flags_left, lasts_left}
use Rattle.mp4_content.specs.words.Differing.{index_in}
use Rattle.mp4_content.specs.declared.reduced.Reduction.{Reduction}
use Rattle.mp4_plan.specs.format.Normal.{in_key_order}
use Rattle.mp4_answers.specs.format.Text.{group_text}
use Rattle.mp4_answers.specs.format.Texts.{hex_digits, hex_text, space, line_feed}
use Rattle.mp4_answers.specs.declared.text.sample_texts.SampleStyle.{SampleStyle}

-- it tells of what this leaves of the samples of a track with these keys, in the order of keys
pub record IsStyle (r : Reduction) (keys : Keys) (style : SampleStyle) : Type 0 where
  pub reduction : style.reduction ≡ r
  pub keys_are : style.keys ≡ keys
  pub order : keys_seen style.order
      ≡ (if r.leaving.groups then [] else in_key_order (keys_seen keys))

-- the index at a key, where there is one
abbrev pub index_text : GroupKey → ℕ → List ℕ
index_text key index = if index == 0 then [] else group_text (key, index)

-- the index of a sample at a key
abbrev pub told_index : Keys → SampleAt → GroupKey → List ℕ
told_index keys s key = index_text key (index_in (key_place key (keys_seen keys)) s.groups)

-- those at these keys
abbrev pub told_indexes : Keys → SampleAt → List GroupKey → List ℕ
told_indexes keys s order = flat_map (told_index keys s) order

-- the end of a line: the digest of a sample's bytes, and its indexes
abbrev pub told_end : SampleStyle → List ℕ → SampleAt → List ℕ
told_end style digest s = space ++ hex_text digest
    ++ told_indexes style.keys s (keys_seen style.order) ++ line_feed

-- its flags, its description index and its size before that
abbrev pub told_flags : SampleStyle → List ℕ → SampleAt → List ℕ
told_flags style digest s = space ++ hex_digits 8 (flags_left style.reduction s.flags) ++ space
    ++ decimal s.description ++ space ++ decimal s.size ++ told_end style digest s

-- the line of a sample whose bytes have this digest
abbrev pub told_line : SampleStyle → List ℕ → SampleAt → List ℕ
told_line style digest s = space ++ decimal (lasts_left style.reduction s.number s.duration)
    ++ space ++ signed_decimal (cto_left style.reduction s.cto) ++ told_flags style digest s

-- the line of a sample of a file
abbrev pub told_sample : SampleStyle → List ℕ → SampleAt → List ℕ
told_sample style file s = told_line style (sha256 (range file s.at s.size)) s

-- Why the digest of a sample is not found: a read failed, or it doesn't lie in the store any more.
abbrev pub RefusesDigest : ℕ → ℕ → Refusal → Type 0
RefusesDigest reads reads_after refusals.StoreFailed = HasRisen reads reads_after
RefusesDigest reads reads_after refusals.StoreChanged = Unit {0}
RefusesDigest reads reads_after _ = ⊥
