use Rattle.std.proofs.Common.{rules, ℕ, ◌∙◌, ◌++◌, List, [], ◌∷◌, map, ap, sym, refl}
use Rattle.std.specs.Prelude.{codes, replicate}
use Rattle.std.specs.List.{flat_map}
use Rattle.mp4_boxes.specs.format.Written.{box_bytes}
use Rattle.mp4_head.specs.words.Seen.{kept_seen}
use Rattle.mp4_head.specs.words.Parts.{descriptions_bytes}
use Rattle.mp4_head.proofs.Pieces.{appended, appended_is, joined, boxed, boxed_room}
use Rattle.mp4_head.proofs.track_writing.put_sample_table.Goals as goal

pub close_box-requires : goal.close_box-requires
close_box-requires c =
    boxed_room c.args.out.now.items (codes "stbl") _ c.put_boxes.new.out.items c.len-at.result (search rules) refl
    (
    boxed c.args.out.now.items (codes "stbl") (descriptions_bytes (map kept_seen c.args.descriptions.now))
    ((joined (box_bytes (codes "stts") (replicate 8 0) ∷ box_bytes (codes "stsc") (replicate 8 0) ∷ box_bytes (codes "stsz") (replicate 12 0) ∷ box_bytes (codes "stco") (replicate 8 0) ∷ [])) ∷ (flat_map (box_bytes (codes "sgpd")) (map (λ p. p.now) c.args.group_descriptions.now)) ∷ [])
    c.put_boxes.new.out.items (rw (c.in_ok-put_boxes.ensures, c.in_ok-put.ensures, c.in_ok-put_descriptions.ensures, c.in_ok-open_box.ensures) refl))

pub returns : goal.returns
returns c =
    c.close_box.ensures c.args.out.now.items (codes "stbl")
    (appended (descriptions_bytes (map kept_seen c.args.descriptions.now)) ((joined (box_bytes (codes "stts") (replicate 8 0) ∷ box_bytes (codes "stsc") (replicate 8 0) ∷ box_bytes (codes "stsz") (replicate 12 0) ∷ box_bytes (codes "stco") (replicate 8 0) ∷ []))
    ∷ (flat_map (box_bytes (codes "sgpd")) (map (λ p. p.now) c.args.group_descriptions.now)) ∷ [])) (search rules) refl
    (
    boxed c.args.out.now.items (codes "stbl") (descriptions_bytes (map kept_seen c.args.descriptions.now))
    ((joined (box_bytes (codes "stts") (replicate 8 0) ∷ box_bytes (codes "stsc") (replicate 8 0) ∷ box_bytes (codes "stsz") (replicate 12 0) ∷ box_bytes (codes "stco") (replicate 8 0) ∷ [])) ∷ (flat_map (box_bytes (codes "sgpd")) (map (λ p. p.now) c.args.group_descriptions.now)) ∷ [])
    c.put_boxes.new.out.items (rw (c.in_ok-put_boxes.ensures, c.in_ok-put.ensures, c.in_ok-put_descriptions.ensures, c.in_ok-open_box.ensures) refl))
    ∙ ap (λ (x : List ℕ). c.args.out.now.items ++ box_bytes (codes "stbl") x)
    (ap (λ (x : List ℕ). x ++ flat_map (box_bytes (codes "sgpd")) (map (λ p. p.now) c.args.group_descriptions.now))
    (sym (appended_is (descriptions_bytes (map kept_seen c.args.descriptions.now)) (box_bytes (codes "stts") (replicate 8 0) ∷ box_bytes (codes "stsc") (replicate 8 0) ∷ box_bytes (codes "stsz") (replicate 12 0) ∷ box_bytes (codes "stco") (replicate 8 0) ∷ []))))
