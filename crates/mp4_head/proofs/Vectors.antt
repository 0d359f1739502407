use Rattle.std.specs.Prelude.{◌≡◌, ℤ, pos, List, [], ◌∷◌, ◌++◌, take, codes, refl, replicate}
use Rattle.mp4_boxes.proofs.Vectors.{v1n, p, np, v1_moov, v1_mvhd, part, p_table}
use Rattle.mp4_head.specs.format.Head.{MovieHead, TrackHead, Media}
use Rattle.mp4_head.specs.format.Tree.{TrackTree, movie_head_of, track_head_of}
use Rattle.mp4_head.specs.format.Writing.{head_bytes}

abbrev pub unity : List ℤ
unity = pos 65536 ∷ pos 0 ∷ pos 0 ∷ pos 0 ∷ pos 65536 ∷ pos 0 ∷ pos 0 ∷ pos 0 ∷ pos 1073741824 ∷ []

abbrev pub v1_head : MovieHead
v1_head = record { creation = 0; modification = 0; timescale = 1000; rate = pos 65536; volume = pos 256; matrix = unity; kept = [] }

v1-read : movie_head_of (record { moov = v1_moov; movie = v1_mvhd ∷ []; extends = []; tracks = [] }) ≡ v1_head
v1-read = refl

v1-normal : head_bytes v1_head [] 0 ≡ v1n
v1-normal = refl

abbrev pub p_track_tree : TrackTree
p_track_tree = record {
  trak = part p 140 401 (codes "trak");
  track = part p 148 92 (codes "tkhd") ∷ part p 240 301 (codes "mdia") ∷ [];
  edits = [];
  media = part p 248 32 (codes "mdhd") ∷ part p 280 33 (codes "hdlr") ∷ part p 313 228 (codes "minf") ∷ [];
  information = part p 321 20 (codes "vmhd") ∷ part p 341 36 (codes "dinf") ∷ part p 377 164 (codes "stbl") ∷ [];
  data_information = part p 349 28 (codes "dref") ∷ [];
  data_references = part p 365 12 (codes "url ") ∷ [];
  table = p_table;
  descriptions = part p 401 16 (codes "mp4v") ∷ [];
}

abbrev pub p_media : Media
p_media = record {
  creation = 0;
  modification = 0;
  timescale = 12800;
  language = 0x55c4;
  handler = replicate 8 0 ++ codes "vide" ++ replicate 13 0;
  extended_languages = [];
  header = record { kind = codes "vmhd"; payload = 0 ∷ 0 ∷ 0 ∷ 1 ∷ replicate 8 0 };
  descriptions = record { kind = codes "mp4v"; payload = 0 ∷ 0 ∷ 0 ∷ 0 ∷ 0 ∷ 0 ∷ 0 ∷ 1 ∷ [] } ∷ [];
}

abbrev pub p_track : TrackHead
p_track = record {
  flags = 3;
  creation = 0;
  modification = 0;
  id = 1;
  layer = pos 0;
  alternate_group = pos 0;
  volume = pos 0;
  matrix = unity;
  width = 0x400000;
  height = 0x300000;
  edits = [];
  kept = [];
  media = p_media;
  group_descriptions = [];
}

p-read : track_head_of p_track_tree ≡ p_track
p-read = refl

p-normal : head_bytes v1_head (p_track ∷ []) 120 ≡ take 581 np
p-normal = refl
