-- A `moov` whose normal form would be too long. A box of 2^30 bytes is not computed: its payload stays a variable of that length.
use Rattle.std.proofs.Common.{◌≡◌, ℕ, zero, suc, ◌+◌, ◌<◌, ◌≤◌, ◌^◌, true, false, ltb, List, [], ◌∷◌, ◌++◌, length, take, drop, replicate, Ok, refl, sym, ap, ◌∙◌, arith, inr, lit≤, length-append}
use Rattle.std.specs.Prelude.{codes, flat_map}
use Rattle.std.proofs.lemmas.List.{take_all, length-replicate}
use Rattle.mp4_boxes.proofs.Vectors.{hex}
use Rattle.mp4_boxes.specs.format.Box.{Box, header_at, box_of, file_container, box_container}
use Rattle.mp4_boxes.specs.format.Written.{box_bytes}
use Rattle.mp4_boxes.specs.format.Children.{Holds}
use Rattle.mp4_boxes.specs.declared.fault.Kind.TheVariants as kinds
use Rattle.mp4_boxes.specs.declared.rule.Rule.TheVariants as rules
use Rattle.mp4_head.specs.format.Head.{Kept, MovieHead, TrackHead, names_item_location}
use Rattle.mp4_head.specs.format.Writing.{kept_bytes, mvhd_bytes, trak_bytes, mvex_bytes, next_track_id, moov_bytes}
use Rattle.mp4_present.specs.format.Presentation.{max_moov, normal_moov_length, movie_length}
use Rattle.mp4_present.specs.format.Denotes.{FileTree, presentation_of}
use Rattle.mp4_present.specs.format.Stands.{StandsBy, limit}
use Rattle.mp4_present.proofs.StandsForms.{says}

-- a list is no longer than one with others round it
middle : (a b c d : List ℕ) → length b ≤ length (a ++ b ++ c ++ d)
middle a b c d = omega (arith, length-append (a ++ b ++ c) d, length-append (a ++ b) c, length-append a b)

-- a box is longer than its payload
boxed : (kind payload : List ℕ) → 4 + length payload ≤ length (box_bytes kind payload)
boxed kind payload = omega (arith, length-append kind payload)

-- the written `moov` is longer than what is kept in it
longer : (m : MovieHead) (k : Kept) (tracks : List TrackHead) (duration : ℕ) → m.kept ≡ k ∷ [] → length k.payload < length (moov_bytes m tracks duration)
longer m k tracks duration e =
    let kept = flat_map kept_bytes m.kept in
    let one : length kept ≡ length (kept_bytes k ++ []) = ap (λ (ks : List Kept). length (flat_map kept_bytes ks)) e in
    let own = boxed k.kind k.payload in
    let front = length-append (kept_bytes k) [] in
    let inside = middle (mvhd_bytes m (next_track_id tracks)) kept (flat_map trak_bytes tracks) (mvex_bytes tracks duration) in
    let whole = boxed (codes "moov") (mvhd_bytes m (next_track_id tracks) ++ kept ++ flat_map trak_bytes tracks ++ mvex_bytes tracks duration) in
    chain (length k.payload) (length (kept_bytes k)) (length kept) _ _ own (front ∙ refl) one inside whole
  where
    chain : (a b c d f : ℕ) → 4 + a ≤ b → length (kept_bytes k ++ []) ≡ b + 0 → c ≡ length (kept_bytes k ++ []) → c ≤ d → 4 + d ≤ f → a < f
    chain a b c d f p q r t u = omega arith

-- a `moov` of an `mvhd` and of a `udta` with this payload of 2^30 bytes
abbrev udta_bytes : List ℕ → List ℕ
udta_bytes payload = hex (codes "4000000875647461") ++ payload

-- its payload
abbrev movie_bytes : List ℕ → List ℕ
movie_bytes payload = hex (codes "0000006c6d766864000000000000000000000000000003e8000000000001000001000000000000000000000000010000000000000000000000000000000100000000000000000000000000004000000000000000000000000000000000000000000000000000000000000001") ++ udta_bytes payload

-- the file
abbrev pub long_movie : List ℕ → List ℕ
long_movie payload = hex (codes "4000007c6d6f6f76") ++ movie_bytes payload

-- no letters stand among zeros
no_letters : (n : ℕ) → names_item_location (replicate n 0) ≡ false
no_letters zero = refl
no_letters (suc n) = no_letters n

-- its boxes
abbrev mvhd_box : Box
mvhd_box = record { kind = codes "mvhd"; offset = 8; header = 8; payload = drop 8 (hex (codes "0000006c6d766864000000000000000000000000000003e8000000000001000001000000000000000000000000010000000000000000000000000000000100000000000000000000000000004000000000000000000000000000000000000000000000000000000000000001")) }

abbrev udta_box : List ℕ → Box
udta_box payload = record { kind = codes "udta"; offset = 116; header = 8; payload = payload }

abbrev moov_box : List ℕ → Box
moov_box payload = record { kind = codes "moov"; offset = 0; header = 8; payload = movie_bytes payload }

-- equal numbers are no more than one another
no_more : (a b : ℕ) → a ≡ b → a ≤ b
no_more a b e = omega arith

-- how long they are
udta_length : (payload : List ℕ) → length payload ≡ 2 ^ 30 → length (udta_bytes payload) ≡ 0x40000008
udta_length payload long = length-append (hex (codes "4000000875647461")) payload ∙ ap (λ (n : ℕ). 8 + n) long

movie_length_is : (payload : List ℕ) → length payload ≡ 2 ^ 30 → length (movie_bytes payload) ≡ 0x40000074
movie_length_is payload long = length-append (hex (codes "0000006c6d766864000000000000000000000000000003e8000000000001000001000000000000000000000000010000000000000000000000000000000100000000000000000000000000004000000000000000000000000000000000000000000000000000000000000001")) (udta_bytes payload) ∙ ap (λ (n : ℕ). 108 + n) (udta_length payload long)

file_length_is : (payload : List ℕ) → length payload ≡ 2 ^ 30 → length (long_movie payload) ≡ 0x4000007c
file_length_is payload long = length-append (hex (codes "4000007c6d6f6f76")) (movie_bytes payload) ∙ ap (λ (n : ℕ). 8 + n) (movie_length_is payload long)

-- the headers of the three boxes
moov_says : (payload : List ℕ) → length payload ≡ 2 ^ 30 → header_at true (long_movie payload) ≡ Ok (says (codes "moov") 0x4000007c)
moov_says payload long =
    let a : ltb (length (long_movie payload)) 8 ≡ false = ap (λ (n : ℕ). ltb n 8) (file_length_is payload long) in
    let b : ltb (length (long_movie payload)) 0x4000007c ≡ false = ap (λ (n : ℕ). ltb n 0x4000007c) (file_length_is payload long) in
    rw (a, b) refl

-- of `mvhd`
mvhd_says : (payload : List ℕ) → length payload ≡ 2 ^ 30 → header_at false (movie_bytes payload) ≡ Ok (says (codes "mvhd") 108)
mvhd_says payload long =
    let a : ltb (length (movie_bytes payload)) 8 ≡ false = ap (λ (n : ℕ). ltb n 8) (movie_length_is payload long) in
    let b : ltb (length (movie_bytes payload)) 108 ≡ false = ap (λ (n : ℕ). ltb n 108) (movie_length_is payload long) in
    rw (a, b) refl

-- of `udta`
udta_says : (payload : List ℕ) → length payload ≡ 2 ^ 30 → header_at false (udta_bytes payload) ≡ Ok (says (codes "udta") 0x40000008)
udta_says payload long =
    let a : ltb (length (udta_bytes payload)) 8 ≡ false = ap (λ (n : ℕ). ltb n 8) (udta_length payload long) in
    let b : ltb (length (udta_bytes payload)) 0x40000008 ≡ false = ap (λ (n : ℕ). ltb n 0x40000008) (udta_length payload long) in
    rw (a, b) refl

-- the tree of the file
abbrev long_tree : List ℕ → FileTree
long_tree payload = record { top = moov_box payload ∷ []; movie = record { moov = moov_box payload; movie = mvhd_box ∷ udta_box payload ∷ []; extends = []; tracks = [] }; fragments = [] }

-- the boxes are those of the headers
moov_is : (payload : List ℕ) → length payload ≡ 2 ^ 30 → moov_box payload ≡ box_of 0 (long_movie payload) (says (codes "moov") 0x4000007c)
moov_is payload long =
    let all : take 0x40000074 (movie_bytes payload) ≡ movie_bytes payload = take_all 0x40000074 (movie_bytes payload) (no_more (length (movie_bytes payload)) 0x40000074 (movie_length_is payload long)) in
    λ i. record { kind = codes "moov"; offset = 0; header = 8; payload = sym all i }

udta_is : (payload : List ℕ) → length payload ≡ 2 ^ 30 → udta_box payload ≡ box_of 116 (udta_bytes payload) (says (codes "udta") 0x40000008)
udta_is payload long =
    let all : take 0x40000000 payload ≡ payload = take_all 0x40000000 payload (no_more (length payload) 0x40000000 long) in
    λ i. record { kind = codes "udta"; offset = 116; header = 8; payload = sym all i }

-- they are those of the profile, in the file
top_holds : (payload : List ℕ) → length payload ≡ 2 ^ 30 → Holds rules.File (file_container (long_movie payload)) (moov_box payload ∷ [])
top_holds payload long = record {
  tiles = record { front = (((says (codes "moov") 0x4000007c, moov_says payload long, moov_is payload long), tt), tt); full = ap (λ (n : ℕ). (8 + n) + 0) (movie_length_is payload long) ∙ sym (file_length_is payload long) };
  allowed = (refl, tt);
  quantities = (refl, (tt, (tt, (tt, (tt, (tt, (tt, tt)))))));
}

-- and in the `moov`
movie_holds : (payload : List ℕ) → length payload ≡ 2 ^ 30 → Holds rules.Movie (box_container (moov_box payload)) (mvhd_box ∷ udta_box payload ∷ [])
movie_holds payload long = record {
  tiles = record { front = (((says (codes "mvhd") 108, mvhd_says payload long, refl), ((says (codes "udta") 0x40000008, udta_says payload long, udta_is payload long), tt)), tt); full = ap (λ (n : ℕ). 108 + ((8 + n) + 0)) long ∙ sym (movie_length_is payload long) };
  allowed = (refl, (refl, tt));
  quantities = (refl, (lit≤ tt, (tt, (tt, tt))));
}

-- the normal form has no shorter `moov`
long_passes : (payload : List ℕ) → length payload ≡ 2 ^ 30 → max_moov < normal_moov_length (presentation_of (long_movie payload) (long_tree payload))
long_passes payload long =
    let p = presentation_of (long_movie payload) (long_tree payload) in
    let k : Kept = record { kind = codes "udta"; payload = payload } in
    let more : length payload < normal_moov_length p = longer p.movie k [] (movie_length p) refl in
    enough (length payload) (normal_moov_length p) long more
  where
    enough : (a b : ℕ) → a ≡ 2 ^ 30 → a < b → 2 ^ 30 < b
    enough a b e h = omega arith

-- such a `moov` is too long
pub long_movie-stands : (payload : List ℕ) → length payload ≡ 2 ^ 30 → names_item_location payload ≡ false
    → StandsBy limit (long_movie payload) (record { kind = kinds.MovieTooLarge; box_type = codes "moov"; offset = 0 })
long_movie-stands payload long none = inr (record {
  tree = long_tree payload;
  is_tree = record { top = top_holds payload long; order = refl; moov = refl; movie = record { movie = movie_holds payload long; extends = refl; traks = refl; tracks = tt }; moofs = refl; fragments = tt };
  is_sound = record {
    movie = record { movie = (record { readable = record { version = refl; flags = refl; room = lit≤ tt }; value = refl; inside = refl; offsets = refl }, (tt, tt)); kept = (none, tt); tracks = tt; track_ids = refl; extends = tt; trex_ids = refl };
    tables = tt;
    fragments = tt;
  };
  is_consistent = record { tables = tt; known = tt; indexes = tt; places = tt; groups = tt; times = tt };
  passes = long_passes payload long;
  named = refl;
})

-- with zeros in it: so a file with this fault is there
pub zeros-stand : (n : ℕ) → n ≡ 2 ^ 30 → StandsBy limit (long_movie (replicate n 0)) (record { kind = kinds.MovieTooLarge; box_type = codes "moov"; offset = 0 })
zeros-stand n e = long_movie-stands (replicate n 0) (length-replicate n 0 ∙ e) (no_letters n)
