use Rattle.std.specs.Prelude.{◌≡◌, pos, List, [], ◌∷◌, codes, refl}
use Rattle.std.specs.Prelude.{ℕ, map, Option, Some, None, ◌++◌, take, drop}
use Rattle.mp4_boxes.proofs.Vectors.{p, part}
use Rattle.mp4_tables.specs.format.Groups.{GroupKey, Groups}
use Rattle.mp4_head.proofs.Vectors.{v1_head, p_track, p_track_tree}
use Rattle.mp4_present.specs.format.Presentation.{Sample, Presentation, movie_length}
use Rattle.mp4_present.specs.format.Denotes.{FileTree, presentation_of}

abbrev pub p_samples : List Sample
p_samples = record { duration = 512; offset = pos 0; flags = 0; description = 1; bytes = codes "aaaaa"; groups = [] }
    ∷ record { duration = 512; offset = pos 0; flags = 65536; description = 1; bytes = []; groups = [] }
    ∷ record { duration = 512; offset = pos 0; flags = 65536; description = 1; bytes = codes "bbbbbbb"; groups = [] } ∷ []

abbrev pub p_presentation : Presentation
p_presentation = record { movie = v1_head; tracks = record { head = p_track; start = 0; samples = p_samples } ∷ [] }

abbrev pub p_tree : FileTree
p_tree = record {
  top = part p 0 24 (codes "ftyp") ∷ part p 24 517 (codes "moov") ∷ part p 541 20 (codes "mdat") ∷ [];
  movie = record { moov = part p 24 517 (codes "moov"); movie = part p 32 108 (codes "mvhd") ∷ part p 140 401 (codes "trak") ∷ []; extends = []; tracks = p_track_tree ∷ [] };
  fragments = [];
}

p-presentation : presentation_of p p_tree ≡ p_presentation
p-presentation = refl

p-length : movie_length p_presentation ≡ 120
p-length = refl

-- a sample in group 1 of roll recovery
abbrev pub rolled : Sample → Sample
rolled s = record s { groups = (record { kind = codes "roll"; parameter = None }, 1) ∷ [] }

abbrev pub roll_description : List ℕ
roll_description = 1 ∷ 0 ∷ 0 ∷ 0 ∷ (codes "roll" ++ 0 ∷ 0 ∷ 0 ∷ 2 ∷ 0 ∷ 0 ∷ 0 ∷ 1 ∷ 255 ∷ 255 ∷ [])

-- the presentation of the same samples in groups
abbrev pub grouped_presentation : Presentation
grouped_presentation = record { movie = v1_head; tracks = record { head = record p_track { group_descriptions = roll_description ∷ [] }; start = 0; samples = map rolled p_samples } ∷ [] }

-- the same with two samples in the group; the third is past the rows
abbrev pub two_grouped_presentation : Presentation
two_grouped_presentation = record { movie = v1_head; tracks = record { head = record p_track { group_descriptions = roll_description ∷ [] }; start = 0; samples = map rolled (take 2 p_samples) ++ drop 2 p_samples } ∷ [] }

abbrev key : List ℕ → Option ℕ → GroupKey
key kind parameter = record { kind = kind; parameter = parameter }

-- the same with three keys, in their order
abbrev pub keyed_samples : List Groups → List Sample → List Sample
keyed_samples (groups ∷ maps) (s ∷ samples) = record s { groups = groups } ∷ keyed_samples maps samples
keyed_samples _ _ = []

abbrev pub keyed_presentation : Presentation
keyed_presentation = record {
  movie = v1_head;
  tracks = record {
    head = record p_track { group_descriptions = roll_description ∷ [] };
    start = 0;
    samples = keyed_samples (
        ((key (codes "roll") None, 1) ∷ (key (codes "tele") None, 2) ∷ [])
        ∷ ((key (codes "roll") None, 1) ∷ [])
        ∷ ((key (codes "roll") None, 1) ∷ (key (codes "roll") (Some 7), 3) ∷ []) ∷ []) p_samples;
  } ∷ [];
}
