-- One `sbgp`, as it was read: what it is, and which rule it does not keep.
use Rattle.std.proofs.Common.{◌≡◌, ℕ, ◌+◌, ◌<◌, ◌≤◌, [], ◌∷◌, ◌++◌, length, drop, map, subst, ap, ◌∙◌, arith, Bool, true, false}
use Rattle.std.specs.List.{list_any}
use Rattle.mp4_tables.specs.format.Repeated.{total}
use Rattle.mp4_tables.specs.format.Groups.{GroupKey, Grouping, same_key}
use Rattle.mp4_tables.specs.words.Keys.{key_seen, keys_seen}
use Rattle.mp4_tables.specs.words.GroupBoxes.{IsGroup}
use Rattle.mp4_tables.specs.declared.group_boxes.Group.{Group}
use Rattle.mp4_tables.specs.words.Rows.{run_of, runs_at}
use Rattle.mp4_tables.specs.words.TablesComing.{all_below}
use Rattle.mp4_boxes.specs.format.Bytes.{rows}
use Rattle.mp4_boxes.specs.format.Box.{Box}
use Rattle.mp4_tables.specs.words.Leaves.{GroupsSo, SlotTaken, GroupRead, HasTables, IsChild, GroupNext}
use Rattle.mp4_tables.proofs.LeafRows.{lies_in, rows_there}
use Rattle.mp4_tables.specs.declared.places.RowsAt.{RowsAt}
use Rattle.mp4_tables.specs.declared.places.GroupsAt.{GroupsAt}
use Rattle.mp4_tables.proofs.GroupsKept.{group_added}

-- ---- reading one `sbgp`
-- its rows, where they lie in the payload of its `stbl`
pub group_read : (stbl b : Box) (group : Group) (place : ℕ) → HasTables stbl → IsChild stbl b → IsGroup b.payload group → stbl.offset + stbl.header + place ≡ b.offset + b.header
    → GroupRead stbl b (key_seen group.key) (record { place = place + group.rows; count = group.count })
unfolding runs_at
group_read stbl b group place h i g e =
    let lies = lies_in stbl b h i in
    let is = lies.is in
    let within = lies.within in
    let room = g.room in
    let e2 : stbl.offset + stbl.header + (place + group.rows) ≡ b.offset + b.header + group.rows = omega (arith, e) in
    let there = rows_there (stbl.offset + stbl.header) stbl.payload b group.count group.rows (place + group.rows) (4 ∷ 4 ∷ []) lies e2 room in
    let begins = g.rows in
    let count = g.count in
    record {
      named = g.key;
      have = omega (arith, is, within, room, e);
      same = ap (map run_of) there ∙ (λ j. map run_of (rows (count j) (4 ∷ 4 ∷ []) (drop (begins j) b.payload)));
      readable = g.readable;
    }

-- ---- the rules of one `sbgp` that was read

pub group_next : (stbl b : Box) (key : GroupKey) (r : RowsAt) (n : ℕ) (at after : GroupsAt) → GroupRead stbl b key r → list_any (same_key key) (keys_seen at.keys) ≡ false → (length (keys_seen at.keys) ≡ 4 → ⊥) → all_below 65536 (runs_at stbl.payload r) ≡ true → total (runs_at stbl.payload r) ≤ n
    → length (keys_seen at.keys) < 4 → keys_seen after.keys ≡ keys_seen at.keys ++ key ∷ [] → SlotTaken (length (keys_seen at.keys)) at r after → GroupNext stbl.payload n at b after
group_next stbl b key r n at after g new four small few l ks slot = record {
  readable = g.readable;
  so = λ gs so. subst (λ (x : Grouping). GroupsSo stbl.payload n (gs ++ x ∷ []) after) ((λ j. record { key = g.named j; rows = g.same j }))
      (group_added stbl.payload n at after gs key r so ks slot new l g.have small few);
}

pub not_true : ◌≡◌ {A = Bool} false true → ⊥
not_true e = cc
