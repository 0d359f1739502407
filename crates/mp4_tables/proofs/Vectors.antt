use Rattle.std.specs.Prelude.{◌≡◌, pos, [], ◌∷◌, refl, true}
use Rattle.mp4_boxes.proofs.Vectors.{p_table}
use Rattle.mp4_tables.specs.format.Tables.{tables_of, compact_sizes_of}
use Rattle.mp4_tables.specs.format.PlainSamples.{plain_samples}
use Rattle.mp4_tables.specs.format.TableRules.{test, places, chunk_counts, chunk_order}

p-samples : plain_samples (tables_of p_table)
    ≡ record { duration = 512; offset = pos 0; flags = 0; description = 1; at = pos 549; size = 5; groups = [] }
    ∷ record { duration = 512; offset = pos 0; flags = 65536; description = 1; at = pos 554; size = 0; groups = [] }
    ∷ record { duration = 512; offset = pos 0; flags = 65536; description = 1; at = pos 554; size = 7; groups = [] } ∷ []
p-samples = refl

p-places : test places (record { file_length = 561; descriptions = 1 }) (tables_of p_table) ≡ true
p-places = refl

p-counts : test chunk_counts (record { file_length = 561; descriptions = 1 }) (tables_of p_table) ≡ true
p-counts = refl

p-order : test chunk_order (record { file_length = 561; descriptions = 1 }) (tables_of p_table) ≡ true
p-order = refl

-- three compact sizes of 4, 8 and 16 bits
four-bits : compact_sizes_of (0 ∷ 0 ∷ 0 ∷ 0 ∷ 0 ∷ 0 ∷ 0 ∷ 4 ∷ 0 ∷ 0 ∷ 0 ∷ 3 ∷ 0x50 ∷ 0x7f ∷ []) ≡ 5 ∷ 0 ∷ 7 ∷ []
four-bits = refl

eight-bits : compact_sizes_of (0 ∷ 0 ∷ 0 ∷ 0 ∷ 0 ∷ 0 ∷ 0 ∷ 8 ∷ 0 ∷ 0 ∷ 0 ∷ 3 ∷ 5 ∷ 0 ∷ 255 ∷ []) ≡ 5 ∷ 0 ∷ 255 ∷ []
eight-bits = refl

sixteen-bits : compact_sizes_of (0 ∷ 0 ∷ 0 ∷ 0 ∷ 0 ∷ 0 ∷ 0 ∷ 16 ∷ 0 ∷ 0 ∷ 0 ∷ 3 ∷ 0 ∷ 5 ∷ 0 ∷ 0 ∷ 1 ∷ 7 ∷ []) ≡ 5 ∷ 0 ∷ 263 ∷ []
sixteen-bits = refl
