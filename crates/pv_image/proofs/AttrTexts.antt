-- Extended attributes are read back in one way.
use Rattle.std.proofs.Common.{◌≡◌, ◌≢◌, ℕ, zero, suc, ◌+◌, ◌-◌, ◌<◌, ◌≤◌, Bool, true, false, not, ◌&&◌, ◌==◌, nat_le, nat_lt, List, [], ◌∷◌, ◌++◌, length, get_or, take, drop, map, codes, Option, Some, None, refl, sym, ap, ◌∙◌, subst, arith, append_assoc, append-nil, Bor}
use Rattle.std.specs.Prelude.{slice_get}
use Rattle.std.specs.List.{flat_map, list_all, slice_split, join_with_byte}
use Rattle.std.proofs.lemmas.Bool.Decides.{nat_tests}
use Rattle.std.proofs.lemmas.List.{take_more, take_rest, length-map}
use Rattle.std.proofs.lemmas.List.Splits.{join_with_byte-slice_split}
use Rattle.std.proofs.lemmas.Bool.{and_parts, and_from}
use Rattle.pv_path.specs.Printing.{hex_digit, printed_by}
use Rattle.pv_steps.specs.declared.attr.Attr.{Attr}
use Rattle.pv_steps.specs.declared.node.Kind.{Kind}
use Rattle.pv_steps.specs.declared.node.Kind.TheVariants.{Directory, File, Link, Fifo, CharDevice, BlockDevice}
use Rattle.pv_steps.specs.Attributes.{are_bytes, all_before, are_attrs, comes_before, is_attr, is_attr_name, is_ordered}
use Rattle.pv_steps.specs.Objects.{AttrsFit}
use Rattle.pv_steps.proofs.AttrOrder.{before_trans, is_ordered-push}
use Rattle.pv_image.specs.Spelling.{attr_text, attr_texts, attrs_text, is_plain_in_attr}
use Rattle.pv_text.specs.Lines.{lacks}
use Rattle.pv_image.specs.Reading.{AreAttrs, IsAttr, IsByteText, Reads, texts}
use Rattle.pv_text.proofs.Characters.{all_append, all_back, all_joined, hex_lacks, plain_lacks, printed_all}
use Rattle.pv_image.proofs.Cutting.{are_apart, split_join}
use Rattle.pv_image.proofs.Printing.{printed_by-injective}
use Rattle.pv_path.proofs.Tests.{get_or-texts, map-push}

-- ---- what the hidden bytes are for

hex_no_equals : (d : ℕ) → not (hex_digit d == 61) ≡ true
hex_no_equals d = by_test (nat_lt d 10) refl
  where
    by_test : (t : Bool) → nat_lt d 10 ≡ t → not (hex_digit d == 61) ≡ true
    by_test true e = rw e (grind (arith, nat_tests))
    by_test false e = rw e (grind (arith, nat_tests))

no_comma : (bytes : List ℕ) → lacks 44 (printed_by is_plain_in_attr bytes) ≡ true
no_comma bytes = printed_all is_plain_in_attr (λ b. not (b == 44)) refl refl (hex_lacks 44 refl) bytes (plain_lacks is_plain_in_attr 44 refl bytes)

no_equals : (bytes : List ℕ) → lacks 61 (printed_by is_plain_in_attr bytes) ≡ true
no_equals bytes = printed_all is_plain_in_attr (λ b. not (b == 61)) refl refl hex_no_equals bytes (plain_lacks is_plain_in_attr 61 refl bytes)

-- ---- one attribute

pub attr_again : (attr : Attr) → IsAttr attr → slice_split (λ b. b == 61) (join_with_byte 61 (attr_texts attr)) ≡ attr_texts attr
attr_again attr is = split_join 61 (printed_by is_plain_in_attr attr.name) (printed_by is_plain_in_attr attr.value ∷ []) (rw (no_equals attr.name, no_equals attr.value) refl)

pub attr_is : (a b : Attr) → a.name ≡ b.name → a.value ≡ b.value → a ≡ b
attr_is a b p q = λ i. record { name = p i; value = q i }

pub attr_texts-injective : (a b : Attr) → attr_texts a ≡ attr_texts b → a ≡ b
attr_texts-injective a b e =
    let names : printed_by is_plain_in_attr a.name ≡ printed_by is_plain_in_attr b.name = cc in
    let values : printed_by is_plain_in_attr a.value ≡ printed_by is_plain_in_attr b.value = cc in
    attr_is a b (printed_by-injective is_plain_in_attr refl a.name b.name names) (printed_by-injective is_plain_in_attr refl a.value b.value values)

attr_once : (a b : Attr) → IsAttr a → IsAttr b → attr_text a ≡ attr_text b → a ≡ b
attr_once a b f g e = attr_texts-injective a b (sym (attr_again a f) ∙ ap (slice_split (λ c. c == 61)) e ∙ attr_again b g)

attr_apart : (attr : Attr) → lacks 44 (attr_text attr) ≡ true
attr_apart attr = all_joined (λ b. not (b == 44)) 61 refl (attr_texts attr) (rw (no_comma attr.name, no_comma attr.value) refl)

-- ---- several

attrs_apart : (attrs : List Attr) → are_apart 44 (map attr_text attrs) ≡ true
attrs_apart [] = refl
attrs_apart (attr ∷ attrs) = and_from (lacks 44 (attr_text attr)) (are_apart 44 (map attr_text attrs)) (attr_apart attr) (attrs_apart attrs)

attrs_again : (attr : Attr) (attrs : List Attr) → slice_split (λ b. b == 44) (join_with_byte 44 (map attr_text (attr ∷ attrs))) ≡ map attr_text (attr ∷ attrs)
attrs_again attr attrs = split_join 44 (attr_text attr) (map attr_text attrs) (attrs_apart (attr ∷ attrs))

with_equals : (attr : Attr) (more : List ℕ) → attr_text attr ++ more ≢ codes "-"
with_equals attr more e =
    let name = printed_by is_plain_in_attr attr.name in
    let value = printed_by is_plain_in_attr attr.value in
    let glued : attr_text attr ++ more ≡ name ++ 61 ∷ (value ++ more) = append_assoc name (61 ∷ value) more in
    let all : lacks 61 (name ++ 61 ∷ (value ++ more)) ≡ true = subst (λ (t : List ℕ). lacks 61 t ≡ true) (sym e ∙ glued) refl in
    let back : lacks 61 (61 ∷ (value ++ more)) ≡ true = all_back (λ b. not (b == 61)) name (61 ∷ (value ++ more)) all in
    let no : lacks 61 (61 ∷ (value ++ more)) ≡ false = refl in
    cc

some_attrs : (attr : Attr) (attrs : List Attr) → attrs_text (attr ∷ attrs) ≢ codes "-"
some_attrs attr [] e = with_equals attr [] (append-nil (attr_text attr) ∙ e)
some_attrs attr (next ∷ attrs) e = with_equals attr (44 ∷ join_with_byte 44 (map attr_text (next ∷ attrs))) e

are_apart_of : (attr : Attr) (attrs : List Attr) → are_attrs (attr ∷ attrs) ≡ true → IsAttr attr × (are_attrs attrs ≡ true)
are_apart_of attr attrs e =
    let each = list_all (λ (x : Attr). is_attr x.name x.value) attrs in
    let one = is_attr attr.name attr.value in
    let parts = and_parts (one && each) (list_all (comes_before attr) attrs && is_ordered attrs) e in
    let first = and_parts one each parts.0 in
    let last = and_parts (list_all (comes_before attr) attrs) (is_ordered attrs) parts.1 in
    (first.0, and_from each (is_ordered attrs) first.1 last.1)

listed_once : (xs ys : List Attr) → are_attrs xs ≡ true → are_attrs ys ≡ true → map attr_text xs ≡ map attr_text ys → xs ≡ ys
listed_once [] [] f g e = refl
listed_once [] (y ∷ ys) f g e = cc
listed_once (x ∷ xs) [] f g e = cc
listed_once (x ∷ xs) (y ∷ ys) f g e =
    let p = are_apart_of x xs f in
    let q = are_apart_of y ys g in
    let first : attr_text x ≡ attr_text y = cc in
    let rest : map attr_text xs ≡ map attr_text ys = cc in
    let same : x ≡ y = attr_once x y p.0 q.0 first in
    let below : xs ≡ ys = listed_once xs ys p.1 q.1 rest in
    cc

pub attrs_once : (xs ys : List Attr) → are_attrs xs ≡ true → are_attrs ys ≡ true → attrs_text xs ≡ attrs_text ys → xs ≡ ys
attrs_once [] [] f g e = refl
attrs_once [] (y ∷ ys) f g e = absurd (some_attrs y ys (sym e))
attrs_once (x ∷ xs) [] f g e = absurd (some_attrs x xs e)
attrs_once (x ∷ xs) (y ∷ ys) f g e =
    listed_once (x ∷ xs) (y ∷ ys) f g (sym (attrs_again x xs) ∙ ap (slice_split (λ b. b == 44)) e ∙ attrs_again y ys)

pub attrs_are : (kind : Kind) (attrs : List Attr) → AttrsFit kind attrs → are_attrs attrs ≡ true
attrs_are Directory attrs fit = fit
attrs_are File attrs fit = fit
attrs_are Link attrs fit = ap are_attrs fit
attrs_are Fifo attrs fit = fit
attrs_are CharDevice attrs fit = fit
attrs_are BlockDevice attrs fit = fit

-- ---- reading

-- an attribute has two texts
pub two_texts : (pieces : List (Bor (List ℕ))) (attr : Attr) → texts pieces ≡ attr_texts attr → length pieces ≡ 2
two_texts [] attr e = cc
two_texts (p ∷ []) attr e = cc
two_texts (p ∷ q ∷ []) attr e = refl
two_texts (p ∷ q ∷ r ∷ pieces) attr e = cc

attr_bytes : (attr : Attr) → IsAttr attr → IsByteText attr.name × IsByteText attr.value
attr_bytes attr is =
    let three = and_parts (is_attr_name attr.name && nat_le (length attr.value) 65536 && are_bytes attr.name) (are_bytes attr.value) is in
    ((and_parts (is_attr_name attr.name && nat_le (length attr.value) 65536) (are_bytes attr.name) three.0).1, three.1)

module _ (name value : List ℕ) where
  pub none_name : ((x : List ℕ) → IsByteText x → name ≢ printed_by is_plain_in_attr x) → (attr : Attr) → IsAttr attr → name ∷ value ∷ [] ≢ attr_texts attr
  none_name none attr is e = none attr.name (attr_bytes attr is).0 (let here : name ≡ printed_by is_plain_in_attr attr.name = cc in here)

  pub none_value : ((x : List ℕ) → IsByteText x → value ≢ printed_by is_plain_in_attr x) → (attr : Attr) → IsAttr attr → name ∷ value ∷ [] ≢ attr_texts attr
  none_value none attr is e = none attr.value (attr_bytes attr is).1 (let here : value ≡ printed_by is_plain_in_attr attr.value = cc in here)

  -- what the texts print is no attribute
  pub none_attr : (read : Attr) → name ≡ printed_by is_plain_in_attr read.name → value ≡ printed_by is_plain_in_attr read.value → is_attr read.name read.value ≡ false → (attr : Attr) → IsAttr attr → name ∷ value ∷ [] ≢ attr_texts attr
  none_attr read f g bars attr is e =
      let same : read ≡ attr = attr_texts-injective read attr (let texts : attr_texts read ≡ name ∷ value ∷ [] = cc (f, g) in texts ∙ e) in
      let yes : is_attr read.name read.value ≡ true = ap (λ (a : Attr). is_attr a.name a.value) same ∙ is in
      let bad : true ≡ false = sym yes ∙ bars in
      cc

pieces_some : (text : List ℕ) → [] ≢ slice_split (λ b. b == 44) text
pieces_some text e = let h : [] ≡ text = ap (join_with_byte 44) e ∙ join_with_byte-slice_split 44 text in by (subst (λ (t : List ℕ). [] ≡ slice_split (λ b. b == 44) t) (sym h) e)
  where
    by : [] ≡ slice_split (λ b. b == 44) [] → ⊥
    by k = cc

-- to read the pieces is to read the text, where it is no dash
pub attrs_reads : (text : List ℕ) → text ≢ codes "-" → (o : Option (List Attr)) → Reads (map attr_text) AreAttrs (slice_split (λ b. b == 44) text) o → Reads attrs_text AreAttrs text o
attrs_reads text other (Some []) (is, e) = absurd (pieces_some text (sym e))
attrs_reads text other (Some (attr ∷ attrs)) (is, e) = (is, sym (join_with_byte-slice_split 44 text) ∙ ap (join_with_byte 44) e)
attrs_reads text other None none = by_list
  where
    by_list : (x : List Attr) → AreAttrs x → text ≢ attrs_text x
    by_list [] is e = other e
    by_list (attr ∷ attrs) is e = none (attr ∷ attrs) is (ap (slice_split (λ b. b == 44)) e ∙ attrs_again attr attrs)

pub pieces_more : (pieces : List (Bor (List ℕ))) (i : ℕ) (d : Bor (List ℕ)) (attrs : List Attr) (attr : Attr) → i < length pieces → take i (texts pieces) ≡ map attr_text attrs → (get_or pieces i d).now ≡ attr_text attr
    → take (i + 1) (texts pieces) ≡ map attr_text (attrs ++ attr ∷ [])
pieces_more pieces i d attrs attr h so_far is =
    let fits : i < length (texts pieces) = simp length-map h in
    let here : get_or (texts pieces) i d.now ≡ attr_text attr = get_or-texts pieces i d ∙ is in
    take_more (texts pieces) i d.now fits ∙ rw (so_far, here) (sym (map-push attr_text attrs attr))

-- a piece that is no attribute is in no list
pub pieces_none : (pieces : List (Bor (List ℕ))) (i : ℕ) (d : Bor (List ℕ)) → i < length pieces → ((attr : Attr) → IsAttr attr → (get_or pieces i d).now ≢ attr_text attr) → (xs : List Attr) → AreAttrs xs → texts pieces ≢ map attr_text xs
pieces_none [] i d h none xs is e = omega arith
pieces_none (p ∷ pieces) i d h none [] is e = cc
pieces_none (p ∷ pieces) zero d h none (x ∷ xs) is e = none x (are_apart_of x xs is).0 (let here : p.now ≡ attr_text x = cc in here)
pieces_none (p ∷ pieces) (suc i) d h none (x ∷ xs) is e = pieces_none pieces i d (omega arith) none xs (are_apart_of x xs is).1 (let below : texts pieces ≡ map attr_text xs = cc in below)

-- nor is one that does not come after those before it
early_none : (done : List Attr) (attr : Attr) (more : List Attr) → is_ordered (done ++ attr ∷ more) ≡ true → all_before done attr ≡ true
early_none [] attr more e = refl
early_none (x ∷ done) attr more e =
    let parts = and_parts (list_all (comes_before x) (done ++ attr ∷ more)) (is_ordered (done ++ attr ∷ more)) e in
    let next = and_parts (comes_before x attr) (list_all (comes_before x) more) (all_back (comes_before x) done (attr ∷ more) parts.0) in
    and_from (comes_before x attr) (all_before done attr) next.0 (early_none done attr more parts.1)

-- a list of which a front is read goes on with what is read next
goes_on : (pieces : List (List ℕ)) (i : ℕ) (d : List ℕ) (done : List Attr) (attr : Attr) → i < length pieces → are_attrs done ≡ true → take i pieces ≡ map attr_text done → get_or pieces i d ≡ attr_text attr → IsAttr attr → (xs : List Attr) → are_attrs xs ≡ true → pieces ≡ map attr_text xs
    → (more : List Attr) × (xs ≡ done ++ attr ∷ more)
goes_on [] i d done attr h ok so_far here is xs are e = absurd (omega arith)
goes_on (p ∷ pieces) i d done attr h ok so_far here is [] are e = absurd (let bad : p ∷ pieces ≡ [] = e in cc)
goes_on (p ∷ pieces) zero d [] attr h ok so_far here is (x ∷ xs) are e =
    let first : attr_text x ≡ attr_text attr = cc in
    let same : x ≡ attr = attr_once x attr (are_apart_of x xs are).0 is first in
    (xs, ap (λ (y : Attr). y ∷ xs) same)
goes_on (p ∷ pieces) zero d (y ∷ done) attr h ok so_far here is (x ∷ xs) are e = absurd (let bad : [] ≡ map attr_text (y ∷ done) = so_far in cc)
goes_on (p ∷ pieces) (suc i) d [] attr h ok so_far here is (x ∷ xs) are e = absurd (let bad : p ∷ take i pieces ≡ [] = so_far in cc)
goes_on (p ∷ pieces) (suc i) d (y ∷ done) attr h ok so_far here is (x ∷ xs) are e =
    let f = are_apart_of y done ok in
    let g = are_apart_of x xs are in
    let first : attr_text x ≡ attr_text y = cc in
    let front : take i pieces ≡ map attr_text done = cc in
    let rest : pieces ≡ map attr_text xs = cc in
    let same : x ≡ y = attr_once x y g.0 f.0 first in
    let below = goes_on pieces i d done attr (omega arith) f.1 front here is xs g.1 rest in
    (below.0, (let tail : xs ≡ done ++ attr ∷ below.0 = below.1 in cc))

pub order_none : (pieces : List (Bor (List ℕ))) (i : ℕ) (d : Bor (List ℕ)) (done : List Attr) (attr : Attr) → i < length pieces → are_attrs done ≡ true → take i (texts pieces) ≡ map attr_text done → (get_or pieces i d).now ≡ attr_text attr → IsAttr attr → all_before done attr ≡ false
    → (xs : List Attr) → AreAttrs xs → texts pieces ≢ map attr_text xs
order_none pieces i d done attr h ok so_far here is early xs are e =
    let fits : i < length (texts pieces) = simp length-map h in
    let on = goes_on (texts pieces) i d.now done attr fits ok so_far (get_or-texts pieces i d ∙ here) is xs are e in
    let ordered : is_ordered (done ++ attr ∷ on.0) ≡ true = subst (λ (ys : List Attr). is_ordered ys ≡ true) on.1 (and_parts (list_all (λ (x : Attr). is_attr x.name x.value) xs) (is_ordered xs) are).1 in
    let yes = early_none done attr on.0 ordered in
    let bad : true ≡ false = sym yes ∙ early in
    cc

pub attrs_more : (done : List Attr) (attr : Attr) → are_attrs done ≡ true → IsAttr attr → all_before done attr ≡ true → are_attrs (done ++ attr ∷ []) ≡ true
attrs_more done attr ok is late =
    let test = λ (x : Attr). is_attr x.name x.value in
    let parts = and_parts (list_all test done) (is_ordered done) ok in
    and_from (list_all test (done ++ attr ∷ [])) (is_ordered (done ++ attr ∷ [])) (all_append test done (attr ∷ []) parts.0 (and_from (test attr) true is refl)) (is_ordered-push done attr parts.1 late)

-- what comes after the last of a list comes after all
after_last : (xs : List Attr) (last attr : Attr) → is_ordered (xs ++ last ∷ []) ≡ true → comes_before last attr ≡ true → all_before (xs ++ last ∷ []) attr ≡ true
after_last [] last attr e late = and_from (comes_before last attr) true late refl
after_last (x ∷ xs) last attr e late =
    let parts = and_parts (list_all (comes_before x) (xs ++ last ∷ [])) (is_ordered (xs ++ last ∷ [])) e in
    let next = and_parts (comes_before x last) true (all_back (comes_before x) xs (last ∷ []) parts.0) in
    and_from (comes_before x attr) (all_before (xs ++ last ∷ []) attr) (before_trans x.name last.name attr.name next.0 late) (after_last xs last attr parts.1 late)

-- what does not come after the last does not come after all
before_last : (xs : List Attr) (last attr : Attr) → comes_before last attr ≡ false → all_before (xs ++ last ∷ []) attr ≡ false
before_last [] last attr e = rw e refl
before_last (x ∷ xs) last attr e = by_test (before_last xs last attr e) (comes_before x attr) refl
  where
    by_test : all_before (xs ++ last ∷ []) attr ≡ false → (t : Bool) → comes_before x attr ≡ t → all_before (x ∷ xs ++ last ∷ []) attr ≡ false
    by_test below true q = rw q below
    by_test below false q = rw q refl

-- a list that ends in an attribute is what stands before that, and it
ends_in : (xs : List Attr) (last : Attr) → slice_get xs (length xs - 1) ≡ Some last → (front : List Attr) × (xs ≡ front ++ last ∷ [])
ends_in [] last e = cc
ends_in (x ∷ []) last e = ([], (let same : x ≡ last = cc in ap (λ (y : Attr). y ∷ []) same))
ends_in (x ∷ y ∷ xs) last e =
    let one : suc (suc (length xs)) - 1 ≡ suc (length xs) = omega arith in
    let two : suc (length xs) - 1 ≡ length xs = omega arith in
    let next : slice_get (y ∷ xs) (length xs) ≡ Some last = rw one at e in
    let below = ends_in (y ∷ xs) last (rw two next) in
    (x ∷ below.0, ap (λ (ys : List Attr). x ∷ ys) below.1)

-- the last of a list decides whether an attribute comes after all
pub late_is : (xs : List Attr) (last attr : Attr) → are_attrs xs ≡ true → slice_get xs (length xs - 1) ≡ Some last → comes_before last attr ≡ all_before xs attr
late_is xs last attr are e = by_test (comes_before last attr) refl
  where
    front : (ys : List Attr) × (xs ≡ ys ++ last ∷ [])
    front = ends_in xs last e

    ordered : is_ordered (front.0 ++ last ∷ []) ≡ true
    ordered = subst (λ (ys : List Attr). is_ordered ys ≡ true) front.1 (and_parts (list_all (λ (x : Attr). is_attr x.name x.value) xs) (is_ordered xs) are).1

    by_test : (t : Bool) → comes_before last attr ≡ t → comes_before last attr ≡ all_before xs attr
    by_test true q = q ∙ sym (ap (λ (ys : List Attr). all_before ys attr) front.1 ∙ after_last front.0 last attr ordered q)
    by_test false q = q ∙ sym (ap (λ (ys : List Attr). all_before ys attr) front.1 ∙ before_last front.0 last attr q)

-- ---- writing

attrs_joined : (attr : Attr) (attrs : List Attr) → attr_text attr ++ flat_map (λ x. 44 ∷ attr_text x) attrs ≡ attrs_text (attr ∷ attrs)
attrs_joined attr [] = append-nil (attr_text attr)
attrs_joined attr (next ∷ attrs) = ap (λ (t : List ℕ). attr_text attr ++ 44 ∷ t) (attrs_joined next attrs)

-- a space, the first attribute, and the others after commas
pub attrs_written : (o p q r : List ℕ) (attrs : List Attr) (d : Attr) → 1 ≤ length attrs → p ≡ o ++ 32 ∷ [] → q ≡ p ++ attr_text (get_or attrs 0 d) → r ≡ q ++ flat_map (λ x. 44 ∷ attr_text x) (take (length attrs - 1) (drop 1 attrs)) → r ≡ o ++ 32 ∷ attrs_text attrs
attrs_written o p q r [] d some e f g = absurd (omega arith)
attrs_written o p q r (attr ∷ attrs) d some e f g =
    let rest : take (length (attr ∷ attrs) - 1) attrs ≡ attrs = take_rest (attr ∷ attrs) 1 in
    g ∙ ap (λ (xs : List Attr). q ++ flat_map (λ x. 44 ∷ attr_text x) xs) rest ∙ ap (λ (t : List ℕ). t ++ flat_map (λ x. 44 ∷ attr_text x) attrs) (f ∙ ap (λ (t : List ℕ). t ++ attr_text attr) e)
    ∙ append_assoc (o ++ 32 ∷ []) (attr_text attr) (flat_map (λ x. 44 ∷ attr_text x) attrs)
    ∙ append_assoc o (32 ∷ []) (attr_text attr ++ flat_map (λ x. 44 ∷ attr_text x) attrs)
    ∙ ap (λ (t : List ℕ). o ++ 32 ∷ t) (attrs_joined attr attrs)
