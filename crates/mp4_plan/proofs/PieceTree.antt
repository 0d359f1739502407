-- The tree of the `moof` of a piece, and the fragment that it says.
use Rattle.std.proofs.Common.{◌≡◌, ℕ, ◌+◌, ◌^◌, ◌<◌, true, false, List, [], ◌∷◌, length, Some, None, refl, sym, ap, ◌∙◌, arith}
use Rattle.std.specs.Prelude.{codes, map, bytes_eq, IsTrue}
use Rattle.mp4_boxes.specs.format.Box.{Box, box_container}
use Rattle.mp4_boxes.specs.format.Children.{Holds, allows, is_among}
use Rattle.mp4_boxes.specs.format.Places.{ruled, AreSound}
use Rattle.mp4_boxes.specs.declared.rule.Rule.TheVariants as rules
use Rattle.mp4_boxes.proofs.WrittenBoxes.{Content, written, placed, placed_box, children, AreTypes, typed, length-box_bytes, fits_written, holds_written, count_before, of_kind-none, of_kind-all}
use Rattle.mp4_tables.specs.format.Groups.{groupings_of}
use Rattle.mp4_frag.specs.format.Fragments.{TrackFragment, FragmentTree, IsFragmentTree, sample_run_of, column, track_fragment_of, fragment_of}
use Rattle.mp4_head.proofs.WrittenTrackHead.{sound_placed}
use Rattle.mp4_plan.specs.format.Pieces.{Piece}
use Rattle.mp4_plan.specs.format.Normal.{shared_by, first_time, first_description, piece_keys}
use Rattle.mp4_plan.proofs.WrittenRun.{run_payload, run_read, run_again, run_sound, head_id, head_values, head_is_moof, head_sound, time_again, time_sound, time_payload}
use Rattle.mp4_plan.proofs.WrittenGroups.{grouped_by}
use Rattle.mp4_plan.proofs.WrittenFragment.{IsWritablePiece, tfhd_payload, traf_front, traf_groups, traf_contents, traf_payload, mfhd_payload, moof_contents, moof_payload, traf_written, moof_written, all_keyed, piece_keys_valid, groups_say, groups_sound, the_flags, traf_short, moof_short}

-- the `moof` of a piece
abbrev pub moof_content : ℕ → ℕ → Piece → Content
moof_content sequence data_offset piece = typed (codes "moof") (moof_payload sequence data_offset piece)

-- the boxes in the `traf` that begins at a place
abbrev pub traf_boxes : ℕ → ℕ → Piece → List Box
traf_boxes at data_offset piece = placed (at + 8) (traf_contents data_offset piece)

-- the tree of the `moof` that begins at a place
abbrev pub piece_tree : ℕ → ℕ → ℕ → Piece → FragmentTree
piece_tree at sequence data_offset piece = record {
  moof = placed_box at (moof_content sequence data_offset piece);
  children = placed (at + 8) (moof_contents sequence data_offset piece);
  trafs = traf_boxes (at + 8 + (8 + length (mfhd_payload sequence))) data_offset piece ∷ [];
}

-- the `traf` as it is read
abbrev pub traf_read : ℕ → Piece → TrackFragment
traf_read data_offset piece =
    let shared = shared_by piece.samples in
    record {
      id = piece.id;
      base_data_offset = None;
      description = Some (first_description piece.samples);
      duration = shared.duration;
      size = shared.size;
      flags = shared.flags;
      base_is_moof = true;
      decode_time = Some (first_time piece.samples);
      runs = run_read data_offset shared piece.samples ∷ [];
      groups = map (grouped_by piece.samples) (piece_keys piece.samples);
    }

module _ (data_offset : ℕ) (piece : Piece) (near : data_offset < 2 ^ 31) (h : IsWritablePiece piece) where
  -- its types have four letters
  traf_types : AreTypes (traf_contents data_offset piece)
  traf_types = (refl, (refl, (refl, all_keyed (λ kind. length kind ≡ 4) piece.samples (piece_keys piece.samples) refl)))

  -- the `traf` holds its boxes
  traf_holds : (b : Box) → b.payload ≡ traf_payload data_offset piece → Holds rules.TrackFragment (box_container b) (children b (traf_contents data_offset piece))
  traf_holds b e =
      let front = traf_front data_offset piece in
      let groups = traf_groups piece in
      let same = e ∙ traf_written data_offset piece in
      let short = traf_short piece h data_offset near in
      let long : length (written (traf_contents data_offset piece)) ≡ length (traf_payload data_offset piece) = ap (λ (l : List ℕ). length l) (sym (traf_written data_offset piece)) in
      let count = λ (kinds : List (List ℕ)) (n : is_among kinds (codes "sbgp") ≡ false). count_before kinds front groups (all_keyed (λ kind. is_among kinds kind ≡ false) piece.samples (piece_keys piece.samples) n) in
      let time = count (codes "tfdt" ∷ []) refl in
      holds_written rules.TrackFragment b (traf_contents data_offset piece) same (fits_written (traf_contents data_offset piece) traf_types (omega arith))
      (refl, (refl, (refl, all_keyed (λ kind. IsTrue (allows rules.TrackFragment kind)) piece.samples (piece_keys piece.samples) refl)))
      (count (codes "tfhd" ∷ []) refl, (omega arith, (tt, (tt, tt))))

  -- What the boxes of the `traf` say.
  pub traf_again : (at : ℕ) → track_fragment_of (traf_boxes at data_offset piece) ≡ traf_read data_offset piece
  traf_again at =
      let shared = shared_by piece.samples in
      let samples = piece.samples in
      let few = h.few in
      let id = head_id piece.id (first_description samples) shared.duration shared.size shared.flags h.id (the_flags piece h) in
      let values = head_values piece.id (first_description samples) shared.duration shared.size shared.flags h.id (the_flags piece h) in
      let is_moof = head_is_moof piece.id (first_description samples) shared.duration shared.size shared.flags h.id (the_flags piece h) in
      let time = time_again (first_time samples) h.time in
      let run = run_again data_offset shared samples near (omega arith) h.rows in
      let behind = at + 8 + (8 + length (tfhd_payload piece)) + (8 + length (time_payload (first_time samples))) + (8 + length (run_payload data_offset shared samples)) in
      let no_runs = of_kind-none (codes "trun") behind (traf_groups piece) (all_keyed (λ kind. bytes_eq (codes "trun") kind ≡ false) samples (piece_keys samples) refl) in
      let all_groups = of_kind-all (codes "sbgp") behind (traf_groups piece) (all_keyed (λ kind. bytes_eq (codes "sbgp") kind ≡ true) samples (piece_keys samples) refl) in
      let groups = groups_say behind samples (piece_keys samples) h.few h.groups (piece_keys_valid samples h.groups) in
      (λ i. record {
        id = id i;
        base_data_offset = column (values i) 0;
        description = column (values i) 1;
        duration = column (values i) 2;
        size = column (values i) 3;
        flags = column (values i) 4;
        base_is_moof = is_moof i;
        decode_time = Some (time i);
        runs = run i ∷ map (λ (b : Box). sample_run_of b.payload) (no_runs i);
        groups = groupings_of (all_groups i);
      })
      ∙ (λ i. record (traf_read data_offset piece) { groups = groups i })

  -- The leaves of the `traf` are sound.
  pub traf_sound : (at : ℕ) → AreSound (ruled rules.TrackFragment) (traf_boxes at data_offset piece)
  traf_sound at =
      let shared = shared_by piece.samples in
      let samples = piece.samples in
      let few = h.few in
      sound_placed (ruled rules.TrackFragment) (at + 8) (traf_contents data_offset piece) (
        head_sound piece.id (first_description samples) shared.duration shared.size shared.flags h.id (the_flags piece h),
        (
          time_sound (first_time samples),
          (
            run_sound data_offset shared samples near (omega arith) h.rows,
            groups_sound samples (piece_keys samples) h.few h.groups (piece_keys_valid samples h.groups),
          ),
        ),
      )

  -- The tree of the `moof` is this one.
  pub piece_tree_is : (at sequence : ℕ) → IsFragmentTree (piece_tree at sequence data_offset piece)
  piece_tree_is at sequence =
      let contents = moof_contents sequence data_offset piece in
      let moof = placed_box at (moof_content sequence data_offset piece) in
      let short = moof_short piece h sequence data_offset near in
      let long : length (written contents) ≡ length (moof_payload sequence data_offset piece) = ap (λ (l : List ℕ). length l) (sym (moof_written sequence data_offset piece)) in
      let outer = length-box_bytes (codes "moof") (moof_payload sequence data_offset piece) refl in
      record {
        children = holds_written rules.MovieFragment moof contents (moof_written sequence data_offset piece) (fits_written contents (refl, (refl, tt)) (omega arith)) (refl, (refl, tt)) (refl, (tt, tt));
        trafs = (traf_holds (placed_box (at + 8 + (8 + length (mfhd_payload sequence))) (typed (codes "traf") (traf_payload data_offset piece))) refl, tt);
      }

  -- The fragment that it says.
  pub fragment_again : (at sequence : ℕ) → fragment_of (piece_tree at sequence data_offset piece) ≡ record { at = at; trafs = traf_read data_offset piece ∷ [] }
  fragment_again at sequence = let t = traf_again (at + 8 + (8 + length (mfhd_payload sequence))) in λ i. record { at = at; trafs = t i ∷ [] }
