-- The steps of opening a file, by its bytes: whatever the file says.
use Rattle.std.proofs.Common.{Bool, List, map, take, drop, inl, inr, refl, length-take, length-drop, ◌≡◌, ℕ, ◌+◌, ◌-◌, ◌*◌, ◌^◌, ◌<◌, ◌≤◌, length, sym, ap, subst, ◌∙◌, arith, mul-le-mul_right}
use Rattle.std.specs.Prelude.{IsTrue}
use Rattle.std.proofs.Math.Nat.{mul-add, mul-le-mul_left}
use Rattle.std.proofs.lemmas.List.{length-map}
use Rattle.mp4_boxes.specs.format.Box.{Box}
use Rattle.mp4_tables.specs.words.Accepted.{rows_in, tables_at}
use Rattle.mp4_tables.specs.words.Leaves.{TablesRead}
use Rattle.mp4_tables.specs.format.Tables.{Tables}
use Rattle.mp4_tables.specs.words.TablesSeen.{TablesSeen, tables_seen}
use Rattle.mp4_tables.proofs.Passed.{rows_fit}
use Rattle.mp4_tables.proofs.PlaceLists.{count_is}
use Rattle.mp4_head.specs.words.Found.{LiesIn, SaysHead}
use Rattle.mp4_head.specs.declared.heads.MovieHead.{MovieHead}
use Rattle.mp4_head.specs.declared.heads.TrackHead.{TrackHead}
use Rattle.mp4_present.specs.format.ByBytes.{OpensWithin}
use Rattle.mp4_present.specs.declared.opening.outline.Outline.{Outline}
use Rattle.mp4_present.proofs.Opened.{IsRead, its_movie}

-- ---- the tables of one track

-- the `stbl` is no longer than the `moov`
shorter : (moov stbl : Box) → LiesIn moov stbl → length stbl.payload ≤ length moov.payload
shorter moov stbl i = let begins = i.begins in let ends = i.ends in omega (arith, begins, ends)

track_sum : (rows count room way len whole before checked after : ℕ) → 3 * rows ≤ 4 * len → count ≤ room → way ≤ rows → len ≤ whole → checked ≤ before + 4 * len + 2 * count → after ≤ checked + way + count
    → after + 5 * (room - count) ≤ before + 5 * room + 6 * whole
track_sum rows count room way len whole before checked after r f w l c a = omega (arith, r, f, w, l, c, a)

-- they were accepted, and their samples were added up
pub track_fits : (file_length n room : ℕ) (moov stbl : Box) (v : TablesSeen) (count before checked after : ℕ) → LiesIn moov stbl → TablesRead (record { file_len = file_length; descriptions = n; room = room }) stbl v.at → v.payload ≡ stbl.payload → count ≡ length (tables_seen v).sizes
    → checked ≤ before + 4 * length stbl.payload + 2 * v.at.sizes.rows.count → after ≤ checked + v.at.durations.count + v.at.sizes.rows.count → after + 5 * (room - count) ≤ before + 5 * room + 6 * length moov.payload
track_fits file_length n room moov stbl v count before checked after lies read payload many check more =
    let fit = rows_fit stbl.payload v.at read.accepted.have in
    let number : v.at.sizes.rows.count ≡ count = sym (many ∙ count_is v.payload v.at) in
    let own : count ≡ length (tables_at stbl.payload v.at).sizes = many ∙ ap (λ bytes. length (tables_at bytes v.at).sizes) payload in
    let few : count ≤ room = subst (λ (k : ℕ). k ≤ room) (sym (own ∙ ap (λ (t : Tables). length t.sizes) read.same)) read.all.few in
    track_sum (rows_in v.at) count room v.at.durations.count (length stbl.payload) (length moov.payload) before checked after fit few (omega arith) (shorter moov stbl lies)
    (subst (λ (k : ℕ). checked ≤ before + 4 * length stbl.payload + 2 * k) number check) (subst (λ (k : ℕ). after ≤ checked + v.at.durations.count + k) number more)

pub of_less : (room less L before after : ℕ) → after + 5 * less ≤ before + 5 * room + 6 * L → after ≤ before + 5 * room + 6 * L
of_less room less L before after h = omega (arith, h)

-- they were refused
pub refused_fits : (moov stbl : Box) (room before after : ℕ) → LiesIn moov stbl → after ≤ before + 4 * length stbl.payload + 2 * room → after ≤ before + 5 * room + 6 * length moov.payload
refused_fits moov stbl room before after lies h = let short = shorter moov stbl lies in omega (arith, short, h)

-- ---- one track after the other

-- so many steps were taken for so many tracks, whose tables lie in so many bytes, and there is room for more samples
abbrev pub TracksFit : ℕ → ℕ → ℕ → ℕ → ℕ → Type 0
TracksFit k bytes room old new = new + 5 * room ≤ old + 5 * 2 ^ 24 + 6 * (k * bytes)

pub none_fit : (bytes room start : ℕ) → room ≤ 2 ^ 24 → TracksFit 0 bytes room start start
none_fit bytes room start few = omega (arith, few)

pub next_fit : (k bytes room less old now new : ℕ) → TracksFit k bytes room old now → new + 5 * less ≤ now + 5 * room + 6 * bytes → TracksFit (k + 1) bytes less old new
next_fit k bytes room less old now new h more = omega (arith, h, more)

pub all_fit : (k n bytes room old new : ℕ) → k ≤ n → TracksFit k bytes room old new → new ≤ old + 5 * 2 ^ 24 + 6 * (n * bytes)
all_fit k n bytes room old new few h = let all = mul-le-mul_right bytes few in omega (arith, h, all)

-- one that was not checked to its end
pub last_fit : (k n bytes room old now new : ℕ) → k < n → TracksFit k bytes room old now → new ≤ now + 5 * room + 6 * bytes → new ≤ old + 5 * 2 ^ 24 + 6 * (n * bytes)
last_fit k n bytes room old now new lt h more = all_fit (k + 1) n bytes 0 old new (omega (arith, lt)) (next_fit k bytes room 0 old now new h (omega (arith, more)))

-- ---- a file whose head was read

tables_sum : (tracks whole payload before after : ℕ) → after ≤ before + 5 * 2 ^ 24 + 6 * (tracks * payload) → payload ≤ whole → after ≤ before + 7 * ((tracks + 1) * (2 ^ 24 + whole))
tables_sum tracks whole payload before after h short =
    let each = mul-le-mul_left tracks short in
    let two = mul-add (tracks + 1) (2 ^ 24) whole in
    omega (arith, h, each, two)

open_sum : (tracks one before checked after : ℕ) → checked ≤ before + 7 * ((tracks + 1) * one) → after ≤ checked + one → after ≤ before + 8 * ((tracks + 1) * one)
open_sum tracks one before checked after h more =
    let some : one ≤ (tracks + 1) * one = omega arith in
    omega (arith, h, more, some)

module _ (honest : Bool) (file : List ℕ) (o : Outline) (moov : List ℕ) (b : Box) (head : MovieHead) (r : IsRead honest file o moov b) (says : SaysHead b head) (told : IsTrue honest) where
  abbrev ids : List ℕ
  ids = map (λ (t : TrackHead). t.id) head.tracks.items

  -- the tables of so many tracks lie in the `moov`, and this in the file
  tables_few : (before after : ℕ) → after ≤ before + 5 * 2 ^ 24 + 6 * (length head.tracks.items * length b.payload) → after ≤ before + 7 * ((length head.tracks.items + 1) * (2 ^ 24 + length file))
  tables_few before after h =
      let n = length head.tracks.items in
      let at = o.moov.offset + o.moov.header.header in
      let payload : length b.payload ≡ length moov = ap (λ (x : Box). length x.payload) r.is in
      let read : length moov ≡ length (take (length moov) (drop at file)) = ap (λ (bs : List ℕ). length bs) (r.bytes told) in
      let short : length b.payload ≤ length file = omega (arith, payload, read, length-take (length moov) (drop at file), length-drop at file) in
      tables_sum n (length file) (length b.payload) before after h short

  opens : (before after : ℕ) → after ≤ before + 8 * ((length head.tracks.items + 1) * (2 ^ 24 + length file)) → OpensWithin file before after
  opens before after h =
      let has = its_movie honest file o moov b head ids r says refl told in
      let many : length head.tracks.items ≡ length ids = sym (length-map head.tracks.items (λ (t : TrackHead). t.id)) in
      inr (ids, has, subst (λ (n : ℕ). after ≤ before + 8 * ((n + 1) * (2 ^ 24 + length file))) many h)

  -- the tables were checked, and no `moof`
  pub tables_open : (before after : ℕ) → after ≤ before + 5 * 2 ^ 24 + 6 * (length head.tracks.items * length b.payload) → OpensWithin file before after
  tables_open before after h = let few = tables_few before after h in opens before after (omega (arith, few))

  -- `moof`s were checked too
  pub moofs_open : (before checked after : ℕ) → checked ≤ before + 5 * 2 ^ 24 + 6 * (length head.tracks.items * length b.payload) → after ≤ checked + (2 ^ 24 + length file) → OpensWithin file before after
  moofs_open before checked after h more = opens before after (open_sum (length head.tracks.items) (2 ^ 24 + length file) before checked after (tables_few before checked h) more)

-- no step was taken
pub none_open : (file : List ℕ) (start : ℕ) → OpensWithin file start start
none_open file start = inl refl
