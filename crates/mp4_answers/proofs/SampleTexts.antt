-- The lines of a track's samples, as they are handed out.
use Rattle.std.proofs.Common.{◌≡◌, ℕ, ◌+◌, List, [], ◌∷◌, ◌++◌, length, map, replicate, refl, sym, ap, ◌∙◌, append_assoc, arith}
use Rattle.std.specs.List.{AllByRecursion}
use Rattle.mp4_tables.specs.format.Groups.{GroupKey}
use Rattle.mp4_tables.specs.format.PlainSamples.{PlacedSample}
use Rattle.mp4_tables.specs.words.Timed.{place_of, timed}
use Rattle.mp4_tables.specs.declared.sample.SampleAt.{SampleAt}
use Rattle.mp4_present.specs.format.Denotes.{bytes_at, sample_of}
use Rattle.mp4_answers.specs.declared.jobs.Form.{Form}
use Rattle.mp4_answers.specs.format.Texts.{form_line, lines_in_fragments, sample_at_line, sample_at_lines, sample_lines_from, spots}

-- samples of one `moof`, and then those of others
pub lines_split : (form : Form) (i j fragment : ℕ) (fragments : List ℕ) (samples more : List SampleAt) → j ≡ i + length samples
    → lines_in_fragments form i (replicate (length samples) fragment ++ fragments) (samples ++ more) ≡ sample_at_lines form i fragment samples ++ lines_in_fragments form j fragments more
lines_split form i j fragment fragments [] more e = let same : j ≡ i = omega arith in ap (λ n. lines_in_fragments form n fragments more) (sym same)
lines_split form i j fragment fragments (s ∷ samples) more e =
    ap (λ (text : List ℕ). sample_at_line form i fragment s ++ text) (lines_split form (i + 1) j fragment fragments samples more (omega arith)) ∙ sym (append_assoc (sample_at_line form i fragment s) (sample_at_lines form (i + 1) fragment samples) (lines_in_fragments form j fragments more))

-- samples that lie in the file have the lines of the presentation's
pub lines_of_placed : (form : Form) (file : List ℕ) (keys : List GroupKey) (i number dts : ℕ) (placed : List PlacedSample) (fragments : List ℕ) → length fragments ≡ length placed → AllByRecursion (λ (s : PlacedSample). length (bytes_at file s.at s.size) ≡ s.size) placed
    → lines_in_fragments form i fragments (timed keys number dts placed) ≡ sample_lines_from form i dts (map (sample_of file) placed) (spots (map (λ (s : PlacedSample). place_of s.at) placed) fragments)
lines_of_placed form file keys i number dts [] fragments long whole = refl
lines_of_placed form file keys i number dts (s ∷ placed) [] long whole = absurd cc
lines_of_placed form file keys i number dts (s ∷ placed) (f ∷ fragments) long whole =
    let rest : length fragments ≡ length placed = omega (arith, long) in
    (λ j. form_line form i dts s.offset s.duration s.flags s.description (sym whole.0 j) (record { at = place_of s.at; fragment = f }) ++ lines_of_placed form file keys (i + 1) (number + 1) (dts + s.duration) placed fragments rest whole.1 j)
