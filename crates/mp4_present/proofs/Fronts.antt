-- What a fault in a `traf` comes behind is a front of the file's tree, and its parts are a front of the file's parts.
use Rattle.std.proofs.Common.{◌≡◌, ℕ, true, List, [], ◌∷◌, ◌++◌, refl, sym, ap, subst, ◌∙◌, append_assoc}
use Rattle.std.specs.Prelude.{codes, map, bytes_eq, ℤ, pos, unwrap_or}
use Rattle.std.specs.List.{AllByRecursion, AllZip}
use Rattle.mp4_boxes.specs.format.Box.{Box, file_container, box_container}
use Rattle.mp4_boxes.specs.format.Children.{Holds, of_kind}
use Rattle.mp4_boxes.specs.declared.rule.Rule.TheVariants as rules
use Rattle.mp4_boxes.proofs.Tiling.{holds_one}
use Rattle.mp4_boxes.proofs.Members.{stands_among}
use Rattle.mp4_boxes.proofs.Among.{all_at, of_kind-append, of_kind-split}
use Rattle.mp4_boxes.proofs.Plain.{head_is, nil_cons, tail_is}
use Rattle.mp4_frag.specs.declared.trex.Trex.{Trex}
use Rattle.mp4_frag.specs.format.Fragments.{TrackFragment, Fragment, FragmentTree, IsFragmentTree, AreTrafs, fragment_of, track_fragment_of}
use Rattle.mp4_frag.specs.format.FragmentSamples.{Part, runs_samples, runs_end, base_of, trex_for, no_trex, parts_after, parts_of, all_parts}
use Rattle.mp4_frag.proofs.Trees.{trafs_one, fragment_trees_one}
use Rattle.mp4_head.specs.format.Tree.{MovieTree, trexes_of}
use Rattle.mp4_head.proofs.Trees.{movie_tree_one}
use Rattle.mp4_present.specs.format.Denotes.{FileTree, IsFileTree, file_parts}
use Rattle.mp4_present.specs.format.Stands.{Behind, parts_with}
use Rattle.mp4_boxes.proofs.Joined.{all_first}

-- a list whose values are two lists joined is two lists joined
pub split_map : {A B : Type 0} (f : A → B) (xs : List A) (ys zs : List B) → map f xs ≡ ys ++ zs
    → (front : List A) × (back : List A) × (xs ≡ front ++ back) × (map f front ≡ ys) × (map f back ≡ zs)
split_map f xs [] zs e = ([], xs, refl, refl, e)
split_map f [] (y ∷ ys) zs e = absurd (nil_cons y (ys ++ zs) e)
split_map f (x ∷ xs) (y ∷ ys) zs e =
    let r = split_map f xs ys zs (tail_is (f x) y (map f xs) (ys ++ zs) e) in
    let first = head_is (f x) y (map f xs) (ys ++ zs) e in
    (x ∷ r.0, r.1, ap (λ ws. x ∷ ws) r.2, λ i. first i ∷ r.3 i, r.4)

-- a list whose values begin with one begins with a member
pub next_map : {A B : Type 0} (f : A → B) (xs : List A) (y : B) (ys : List B) → map f xs ≡ y ∷ ys → (x : A) × (more : List A) × (xs ≡ x ∷ more) × (f x ≡ y)
next_map f [] y ys e = absurd (nil_cons y ys e)
next_map f (x ∷ xs) y ys e = (x, xs, refl, head_is (f x) y (map f xs) ys e)

-- a list that goes with two lists joined is two lists joined
split_zip : {A B : Type 0} (R : A → B → Type 0) (cs bs : List A) (ys : List B) → AllZip R (cs ++ bs) ys
    → (front : List B) × (back : List B) × (ys ≡ front ++ back) × AllZip R cs front × AllZip R bs back
split_zip R [] bs ys h = ([], ys, refl, tt, h)
split_zip R (a ∷ cs) bs [] h = absurd h
split_zip R (a ∷ cs) bs (y ∷ ys) h =
    let r = split_zip R cs bs ys h.1 in
    (y ∷ r.0, r.1, ap (λ ws. y ∷ ws) r.2, (h.0, r.3), r.4)

-- a list that goes with one that has a first has a first
next_zip : {A B : Type 0} (R : A → B → Type 0) (a : A) (cs : List A) (ys : List B) → AllZip R (a ∷ cs) ys → (y : B) × (more : List B) × (ys ≡ y ∷ more) × R a y
next_zip R a cs [] h = absurd h
next_zip R a cs (y ∷ ys) h = (y, ys, refl, h.0)

-- what comes before a fault in a `traf` is what the file's tree begins with
pub record IsBegun (file : List ℕ) (t : FileTree) (b : Behind file) : Type 0 where
  pub movie : b.movie ≡ t.movie
  pub fragment : FragmentTree
  pub later : List FragmentTree
  pub fragments : t.fragments ≡ b.earlier ++ fragment ∷ later
  pub moof : fragment.moof ≡ b.moof
  pub rest : List (List Box)
  pub trafs : fragment.trafs ≡ b.inside_before ++ b.inside ∷ rest

same_moov : (x y : Box) (more : List Box) → ◌≡◌ {A = List Box} (x ∷ []) (y ∷ more) → y ≡ x
same_moov x y more e = cc

kind_is : (kind : List ℕ) (b : Box) → bytes_eq kind kind ≡ true → b.kind ≡ kind → bytes_eq kind b.kind ≡ true
kind_is kind b r e = ap (bytes_eq kind) e ∙ r

begins : {A : Type 0} (xs front front' : List A) (x : A) (back : List A) → xs ≡ front ++ x ∷ back → front ≡ front' → xs ≡ front' ++ x ∷ back
begins xs front front' x back e h = e ∙ (λ i. h i ++ x ∷ back)

continues : {A : Type 0} (xs front front' back : List A) (x y : A) (more : List A) → xs ≡ front ++ back → back ≡ x ∷ more → front ≡ front' → x ≡ y → xs ≡ front' ++ y ∷ more
continues xs front front' back x y more e g h k = e ∙ (λ i. front ++ g i) ∙ (λ i. h i ++ k i ∷ more)

-- the tree begins with what the fault comes behind
pub begun : (file : List ℕ) (t : FileTree) → IsFileTree file t → (b : Behind file) → IsBegun file t b
begun file t h b =
    let m = stands_among (file_container file) b.before t.top b.moof b.stands h.top.tiles in
    let moovs : t.movie.moov ∷ [] ≡ b.movie.moov ∷ of_kind (codes "moov") (b.moof ∷ m.0) =
    sym h.moov ∙ ap (of_kind (codes "moov")) m.1 ∙ of_kind-append (codes "moov") b.before (b.moof ∷ m.0) ∙ ap (λ (zs : List Box). zs ++ of_kind (codes "moov") (b.moof ∷ m.0)) b.is_moov in
    let movie = movie_tree_one b.movie t.movie (same_moov t.movie.moov b.movie.moov (of_kind (codes "moov") (b.moof ∷ m.0)) moovs) b.movie_tree h.movie in
    let moofs : map (λ (f : FragmentTree). f.moof) t.fragments ≡ map (λ (f : FragmentTree). f.moof) b.earlier ++ b.moof ∷ of_kind (codes "moof") m.0 =
    h.moofs ∙ ap (of_kind (codes "moof")) m.1 ∙ of_kind-split (codes "moof") b.before m.0 b.moof (kind_is (codes "moof") b.moof refl b.is_moof)
    ∙ ap (λ (zs : List Box). zs ++ b.moof ∷ of_kind (codes "moof") m.0) (sym b.earlier_moofs) in
    let r = split_map (λ (f : FragmentTree). f.moof) t.fragments (map (λ (f : FragmentTree). f.moof) b.earlier) (b.moof ∷ of_kind (codes "moof") m.0) moofs in
    let n = next_map (λ (f : FragmentTree). f.moof) r.1 b.moof (of_kind (codes "moof") m.0) r.4 in
    let joined : t.fragments ≡ r.0 ++ n.0 ∷ n.1 = r.2 ∙ ap (λ zs. r.0 ++ zs) n.2 in
    let trees = subst (λ (zs : List FragmentTree). AllByRecursion IsFragmentTree zs) joined h.fragments in
    let earlier : r.0 ≡ b.earlier = fragment_trees_one r.0 b.earlier r.3 (all_first IsFragmentTree r.0 (n.0 ∷ n.1) trees) b.earlier_trees in
    let tree = all_at IsFragmentTree r.0 n.1 n.0 trees in
    let children : n.0.children ≡ b.children = holds_one rules.MovieFragment rules.MovieFragment (box_container n.0.moof) (box_container b.moof) n.0.children b.children (ap box_container n.3) tree.children b.holds in
    let zipped : AreTrafs (b.trafs_before ++ b.traf ∷ b.trafs_after) n.0.trafs =
    subst (λ (zs : List Box). AreTrafs zs n.0.trafs) (ap (of_kind (codes "traf")) children ∙ b.is_traf) tree.trafs in
    let z = split_zip (λ (x : Box) boxes. Holds rules.TrackFragment (box_container x) boxes) b.trafs_before (b.traf ∷ b.trafs_after) n.0.trafs zipped in
    let w = next_zip (λ (x : Box) boxes. Holds rules.TrackFragment (box_container x) boxes) b.traf b.trafs_after z.1 z.4 in
    let front : z.0 ≡ b.inside_before = trafs_one b.trafs_before z.0 b.inside_before z.3 b.trafs_held in
    let own : w.0 ≡ b.inside = holds_one rules.TrackFragment rules.TrackFragment (box_container b.traf) (box_container b.traf) w.0 b.inside refl w.3 b.traf_held in
    record {
      movie = movie;
      fragment = n.0;
      later = n.1;
      fragments = begins t.fragments r.0 b.earlier n.0 n.1 joined earlier;
      moof = n.3;
      rest = w.1;
      trafs = continues n.0.trafs z.0 b.inside_before z.1 w.0 b.inside w.1 z.2 w.2 front own;
    }

map-append : {A B : Type 0} (f : A → B) (xs ys : List A) → map f (xs ++ ys) ≡ map f xs ++ map f ys
map-append f [] ys = refl
map-append f (x ∷ xs) ys = ap (λ zs. f x ∷ zs) (map-append f xs ys)

-- the parts of the first `traf`s of a `moof` are the first of its parts
parts_front : (trexes : List Trex) (moof : ℕ) (before : ℤ) (xs ys : List TrackFragment)
    → (more : List Part) × (parts_after trexes moof before (xs ++ ys) ≡ parts_after trexes moof before xs ++ more)
parts_front trexes moof before [] ys = (parts_after trexes moof before ys, refl)
parts_front trexes moof before (x ∷ xs) ys =
    let trex = unwrap_or (trex_for trexes x.id) no_trex in
    let base = base_of moof before x in
    let r = parts_front trexes moof (runs_end trex x base base x.runs) xs ys in
    (r.0, ap (λ (ps : List Part). record { id = x.id; decode_time = x.decode_time; runs = runs_samples trex x base base x.runs; groups = x.groups } ∷ ps) r.1)

all_parts-append : (trexes : List Trex) (xs ys : List Fragment) → all_parts trexes (xs ++ ys) ≡ all_parts trexes xs ++ all_parts trexes ys
all_parts-append trexes [] ys = refl
all_parts-append trexes (x ∷ xs) ys = ap (λ (ps : List Part). parts_of trexes x ++ ps) (all_parts-append trexes xs ys) ∙ sym (append_assoc (parts_of trexes x) (all_parts trexes xs) (all_parts trexes ys))

-- the parts up to the faulty `traf` are the first of the file's parts
pub parts_begun : (file : List ℕ) (t : FileTree) (b : Behind file) → IsBegun file t b → (more : List Part) × (file_parts t ≡ parts_with b ++ more)
parts_begun file t b g =
    let trexes = trexes_of b.movie in
    let e = map fragment_of b.earlier in
    let own : fragment_of g.fragment ≡ record { at = b.moof.offset; trafs = map track_fragment_of (b.inside_before ++ b.inside ∷ []) ++ map track_fragment_of g.rest } =
    λ i. record { at = (g.moof i).offset; trafs = (ap (map track_fragment_of) g.trafs ∙ ap (map track_fragment_of) (sym (append_assoc b.inside_before (b.inside ∷ []) g.rest)) ∙ map-append track_fragment_of (b.inside_before ++ b.inside ∷ []) g.rest) i } in
    let front = parts_front trexes b.moof.offset (pos b.moof.offset) (map track_fragment_of (b.inside_before ++ b.inside ∷ [])) (map track_fragment_of g.rest) in
    let mine = parts_of trexes (record { at = b.moof.offset; trafs = map track_fragment_of (b.inside_before ++ b.inside ∷ []) }) in
    let after = all_parts trexes (map fragment_of g.later) in
    let whole : file_parts t ≡ all_parts trexes e ++ (parts_of trexes (fragment_of g.fragment) ++ after) =
    ap (λ (m : MovieTree). all_parts (trexes_of m) (map fragment_of t.fragments)) (sym g.movie)
    ∙ ap (λ (fs : List FragmentTree). all_parts trexes (map fragment_of fs)) g.fragments
    ∙ ap (all_parts trexes) (map-append fragment_of b.earlier (g.fragment ∷ g.later))
    ∙ all_parts-append trexes e (map fragment_of (g.fragment ∷ g.later)) in
    let inner : parts_of trexes (fragment_of g.fragment) ≡ mine ++ front.0 = ap (parts_of trexes) own ∙ front.1 in (
      front.0 ++ after,
      whole ∙ ap (λ (ps : List Part). all_parts trexes e ++ (ps ++ after)) inner
          ∙ ap (λ (ps : List Part). all_parts trexes e ++ ps) (append_assoc mine front.0 after)
          ∙ sym (append_assoc (all_parts trexes e) mine (front.0 ++ after)),
    )
