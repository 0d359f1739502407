-- The `sbgp`s of a `traf` judged one after the other, in file order.
use Rattle.std.specs.Prelude.{◌≡◌, ℕ, ◌≤◌, Bool, true, false, IsTrue, List, [], ◌∷◌, ◌++◌, length, slice_index_or, Some, None, codes, ⊤}
use Rattle.std.specs.List.{list_any}
use Rattle.mp4_boxes.specs.format.Box.{Box}
use Rattle.mp4_boxes.specs.format.Children.{of_kind}
use Rattle.mp4_boxes.specs.format.Layout.{sbgp, IsReadable}
use Rattle.mp4_tables.specs.format.Groups.{GroupKey, Grouping, GroupRule, one_of_key, few_keys, grouping_of, keeps, same_key, keys_after, max_keys}
use Rattle.mp4_tables.specs.words.Keys.{key_place}
use Rattle.mp4_frag.specs.words.RunsJudged.{children_of}

-- the `sbgp`s in a `traf`
abbrev pub groups_in : Box → List Box
groups_in traf = of_kind (codes "sbgp") (children_of traf)

-- an `sbgp` of n samples can be read and keeps the rules, behind these groupings of its `traf`,
-- where the track named these keys before
pub record IsGroupSound (n : ℕ) (keys : List GroupKey) (before : List Grouping) (payload : List ℕ)
    : Type 0 where
  pub readable : IsReadable sbgp payload
  pub rules : (rule : GroupRule) → IsTrue (keeps rule n keys before (grouping_of payload))

abbrev pub AreGroupsSound : ℕ → List GroupKey → List Grouping → List Box → Type 0
AreGroupsSound n keys before [] = ⊤
AreGroupsSound n keys before (b ∷ boxes) = IsGroupSound n keys before b.payload
    × AreGroupsSound n keys (before ++ grouping_of b.payload ∷ []) boxes

-- whether the key at a place among the track's was named
abbrev pub is_named_at : List Bool → ℕ → Bool
is_named_at named j = slice_index_or named j false

-- the keys of a track that named some before, and which of them the groupings of a `traf` so far
-- have named
pub record AreNamed (keys : List GroupKey) (before : List Grouping) (now : List GroupKey)
    (named : List Bool) : Type 0 where
  pub keys_now : now ≡ keys_after keys before
  pub few : length now ≤ max_keys
  pub there : (key : GroupKey) (j : ℕ) → key_place key now ≡ Some j
      → is_named_at named j ≡ list_any (λ (g : Grouping). same_key key g.key) before
  pub missing : (key : GroupKey) → key_place key now ≡ None
      → list_any (λ (g : Grouping). same_key key g.key) before ≡ false

-- one more grouping keeps the rules of keys, and these are the keys and names with it
pub record NamesOneMore (keys : List GroupKey) (before : List Grouping) (g : Grouping)
    (now : List GroupKey) (named : List Bool) : Type 0 where
  pub once : keeps one_of_key 0 keys before g ≡ true
  pub room : keeps few_keys 0 keys before g ≡ true
  pub names : AreNamed keys (before ++ g ∷ []) now named

-- it holds of each `traf` so far whose track has these keys now, of which these are named
abbrev pub WhereNamed : List GroupKey → List Bool → (List GroupKey → List Grouping → Type 0)
    → Type 0
WhereNamed now named P = (keys : List GroupKey) (before : List Grouping)
    → AreNamed keys before now named → P keys before
