-- A box that `--foreign` means is a fault of the file, so a file that denotes something is copied.
use Rattle.std.proofs.Common.{◌≡◌, ℕ, ◌+◌, ◌<◌, ◌≤◌, Bool, true, false, List, [], ◌∷◌, ◌++◌, drop, Ok, Some, refl, sym, ap, subst, ◌∙◌, arith, inl}
use Rattle.std.specs.Prelude.{option_map, not, ◌||◌}
use Rattle.std.proofs.lemmas.List.{drop-drop}
use Rattle.mp4_boxes.specs.format.Box.{Box, Container, header_at, box_of, sizes, file_container, box_container, LieEndToEnd, IsFront, StandsAfter}
use Rattle.mp4_boxes.specs.format.BoxFaults.{fault_of}
use Rattle.mp4_boxes.specs.format.Children.{allows}
use Rattle.mp4_boxes.specs.format.Places.{ruled, Place, whole, containers, at_kind, as_container, inside, Leads, Reaches}
use Rattle.mp4_boxes.specs.declared.fault.Fault.{Fault}
use Rattle.mp4_boxes.specs.declared.fault.Kind.TheVariants.{BoxNotInProfile}
use Rattle.mp4_boxes.specs.declared.rule.Rule.{Rule}
use Rattle.mp4_boxes.specs.declared.rule.Rule.TheVariants.{File, Movie, Track, Edits, Media, MediaInformation, DataInformation, SampleTable, MovieExtends, MovieFragment, TrackFragment}
use Rattle.mp4_boxes.proofs.Tiling.{header_is, box_size, sizes-append, lies_push}
use Rattle.mp4_head.specs.format.HeadFaults.{ChildStands}
use Rattle.mp4_present.specs.format.Stands.{child}
use Rattle.mp4_present.proofs.DenotedOpens.{stands_refuses}
use Rattle.mp4_answers.specs.declared.box_names.Name.{Name}
use Rattle.mp4_answers.specs.declared.box_names.Name.TheVariants.{Foreign}
use Rattle.mp4_answers.specs.format.BoxWalk.{height, rule_inside, under}
use Rattle.mp4_answers.specs.format.Strips.{is_top, payload_behind}
use Rattle.mp4_answers.specs.format.StripLaws.{NamedBoxAt, at_front, further, ForeignIsFault, AcceptedIsCopied}
use Rattle.mp4_answers.specs.format.StripLaws as copies
use Rattle.mp4_answers.proofs.BoxLists.{inside_lower, descends_is}
use Rattle.mp4_answers.proofs.StripLaws.{unnamed_is_copied}

abbrev pub foreign : List Name
foreign = Foreign ∷ []

refused_by : (b : Bool) → (not b || false) ≡ true → b ≡ false
refused_by true e = cc
refused_by false e = refl

-- ---- what is entered is another container

pub top_highest : (rule : Rule) → height rule ≤ 6
top_highest File = omega arith
top_highest Movie = omega arith
top_highest Track = omega arith
top_highest Edits = omega arith
top_highest Media = omega arith
top_highest MediaInformation = omega arith
top_highest DataInformation = omega arith
top_highest SampleTable = omega arith
top_highest MovieExtends = omega arith
top_highest MovieFragment = omega arith
top_highest TrackFragment = omega arith

pub not_top : (inner : Rule) → height inner < 6 → is_top inner ≡ false
not_top File lower = absurd (omega (arith, lower))
not_top Movie lower = refl
not_top Track lower = refl
not_top Edits lower = refl
not_top Media lower = refl
not_top MediaInformation lower = refl
not_top DataInformation lower = refl
not_top SampleTable lower = refl
not_top MovieExtends lower = refl
not_top MovieFragment lower = refl
not_top TrackFragment lower = refl

entered : (rule inner : Rule) (c : Container) (b : Box) → rule_inside rule b.kind ≡ Some inner → inside (under rule c) b ≡ Some (under inner (box_container b))
entered rule inner c b e = ap (option_map (λ scope. record { scope = scope; container = as_container scope b })) (descends_is (at_kind (containers (ruled rule)) b.kind) inner e)

leads_more : (from mid next : Place) (path before : List Box) (b : Box) → Leads from path mid → StandsAfter mid.container before b → inside mid b ≡ Some next → Leads from (path ++ b ∷ []) next
leads_more from mid next [] before b l s i =
    (before, subst (λ (p : Place). StandsAfter p.container before b) (sym l) s, next, subst (λ (p : Place). inside p b ≡ Some next) (sym l) i, refl)
leads_more from mid next (c ∷ path) before b l s i = (l.0, l.1, l.2, l.3, leads_more l.2 mid next path before b l.4 s i)

-- ---- a foreign box among those of a container, behind some

abbrev FaultIn : List ℕ → Type 0
FaultIn file = (f : Fault) × (f.kind ≡ BoxNotInProfile) × ChildStands (whole file) f

stands_foreign : (file : List ℕ) (rule : Rule) (left : ℕ) (rest : List ℕ) (c : Container) (before : List Box) → NamedBoxAt foreign rule left rest → ((bs : List Box) → LieEndToEnd (is_top rule) c.at c.bytes bs → IsFront c bs)
    → LieEndToEnd (is_top rule) c.at c.bytes before → drop (sizes before) c.bytes ≡ rest → Reaches (whole file) (under rule c) → FaultIn file
stands_foreign file rule left rest c before (at_front _ _ _ h e n p) front lie at reaches =
    let read : header_at (is_top rule) (drop (sizes before) c.bytes) ≡ Ok h = ap (header_at (is_top rule)) at ∙ e in
    let b = box_of (c.at + sizes before) (drop (sizes before) c.bytes) h in (
      fault_of BoxNotInProfile b,
      refl,
      record {
        place = under rule c;
        reaches = reaches;
        rule = rule;
        under = refl;
        fault = inl (record {
          before = before;
          b = b;
          stands = front (before ++ b ∷ []) (lies_push (is_top rule) c.at c.bytes before h lie read);
          refused = refused_by (allows rule h.kind) n;
          named = refl;
        });
      },
    )
stands_foreign file rule left rest c before (further _ _ _ h more e x p) front lie at reaches =
    let read : header_at (is_top rule) (drop (sizes before) c.bytes) ≡ Ok h = ap (header_at (is_top rule)) at ∙ e in
    let b = box_of (c.at + sizes before) (drop (sizes before) c.bytes) h in
    let size = box_size (c.at + sizes before) (drop (sizes before) c.bytes) h (header_is (is_top rule) (drop (sizes before) c.bytes) h read) in
    let sum : sizes (before ++ b ∷ []) ≡ sizes before + h.size = sizes-append before (b ∷ []) ∙ omega (arith, size) in
    let behind : drop (sizes (before ++ b ∷ [])) c.bytes ≡ drop h.size rest =
    ap (λ k. drop k c.bytes) sum ∙ sym (drop-drop h.size (sizes before) c.bytes) ∙ ap (drop h.size) at
    in
    stands_foreign file rule more (drop h.size rest) c (before ++ b ∷ []) x front (lies_push (is_top rule) c.at c.bytes before h lie read) behind reaches
stands_foreign file rule left rest c before (copies.inside _ _ _ h inner more e n i x p) front lie at reaches =
    let read : header_at (is_top rule) (drop (sizes before) c.bytes) ≡ Ok h = ap (header_at (is_top rule)) at ∙ e in
    let b = box_of (c.at + sizes before) (drop (sizes before) c.bytes) h in
    let lower = inside_lower rule inner h.kind i in
    let top = not_top inner (omega (arith, lower, top_highest rule)) in
    let there : Leads (whole file) (reaches.0 ++ b ∷ []) (under inner (box_container b)) =
    leads_more (whole file) (under rule c) (under inner (box_container b)) reaches.0 before b reaches.1 (front (before ++ b ∷ []) (lies_push (is_top rule) c.at c.bytes before h lie read)) (entered rule inner c b i)
    in
    stands_foreign file inner more (payload_behind h rest) (box_container b) [] x (λ bs l. (subst (λ t. LieEndToEnd t (box_container b).at (box_container b).bytes bs) top l, tt)) tt (ap (payload_behind h) at) (reaches.0 ++ b ∷ [], there)

fault_stands : (file : List ℕ) (place : ℕ) → NamedBoxAt foreign File place file → FaultIn file
fault_stands file place x = stands_foreign file File place file (file_container file) [] x (λ bs l. (l, tt)) tt refl ([], refl)

pub foreign_is_fault : ForeignIsFault
foreign_is_fault file place x = let f = fault_stands file place x in (f.0, f.1, (child, f.2))

pub accepted_is_copied : AcceptedIsCopied
accepted_is_copied file text p d s =
    unnamed_is_copied foreign file text (λ place x. let f = fault_stands file place x in stands_refuses child file f.0 p f.2 d) s
