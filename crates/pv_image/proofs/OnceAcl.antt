-- No text is the spelling of two ACLs with the same base entries.
use Rattle.std.proofs.Common.{◌≡◌, ◌≢◌, ℕ, zero, suc, ◌+◌, ◌≤◌, Bool, true, false, not, ◌&&◌, ◌||◌, ◌==◌, List, [], ◌∷◌, ◌++◌, map, filter, Option, Some, None, refl, sym, ap, ◌∙◌, subst, arith, append_assoc, codes, if◌then◌else◌}
use Rattle.std.specs.List.{AllByRecursion, list_all, slice_split, join_with_byte}
use Rattle.std.specs.Fmt.{decimal}
use Rattle.std.specs.Option.{option_map_or}
use Rattle.std.proofs.lemmas.Bool.Decides.{nat_tests}
use Rattle.std.proofs.lemmas.Fmt.{decimal_injective}
use Rattle.std.proofs.lemmas.Bool.{and_parts, and_from}
use Rattle.pv_acl.specs.declared.part.Acl.{Acl}
use Rattle.pv_acl.specs.declared.part.Part.{Part}
use Rattle.pv_acl.specs.declared.perm.Named.{Named}
use Rattle.pv_acl.specs.declared.perm.Who.{Who}
use Rattle.pv_acl.specs.declared.perm.Who.TheVariants.{User, Group}
use Rattle.pv_acl.specs.NamedEntries.{id_of, is_before, is_id, is_named, is_ordered, is_perm}
use Rattle.pv_acl.specs.Parts.{base_of, is_acl, is_part}
use Rattle.pv_acl.specs.Texts.{access_texts, acl_text, default_texts, is_group, is_user, mask_texts, named_text, or_dash, part_texts, perm_text, who_text}
use Rattle.pv_image.proofs.Cutting.{are_apart, split_join}
use Rattle.pv_text.proofs.Characters.{all_append, all_weaker, decimal_lacks, digit_lacks}
use Rattle.pv_image.proofs.Once.{fronts, parted}
use Rattle.pv_image.proofs.AclLetters.{PassesEntries, all_filter, entries_pass, part_names}
use Rattle.pv_acl.proofs.Rereading.{id_fits}
use Rattle.pv_acl.proofs.Allowed.{perm_fits}

-- ---- permissions

bits : List ℕ → ℕ
bits (r ∷ w ∷ x ∷ rest) = (if r == 114 then 4 else 0) + (if w == 119 then 2 else 0) + (if x == 120 then 1 else 0)
bits text = 0

perm_back : (p : ℕ) → p ≤ 7 → bits (perm_text p) ≡ p
unfolding bits
perm_back zero h = refl
perm_back (suc zero) h = refl
perm_back (suc (suc zero)) h = refl
perm_back (suc (suc (suc zero))) h = refl
perm_back (suc (suc (suc (suc zero)))) h = refl
perm_back (suc (suc (suc (suc (suc zero))))) h = refl
perm_back (suc (suc (suc (suc (suc (suc zero)))))) h = refl
perm_back (suc (suc (suc (suc (suc (suc (suc zero))))))) h = refl
perm_back (suc (suc (suc (suc (suc (suc (suc (suc p)))))))) h = absurd (omega arith)

perm_once : (p q : ℕ) → is_perm p ≡ true → is_perm q ≡ true → perm_text p ≡ perm_text q → p ≡ q
perm_once p q f g e = sym (perm_back p (perm_fits p f)) ∙ ap bits e ∙ perm_back q (perm_fits q g)

-- a text after a word says the permission
after_word : (a b c p q : ℕ) → is_perm p ≡ true → is_perm q ≡ true → a ∷ b ∷ c ∷ perm_text p ≡ a ∷ b ∷ c ∷ perm_text q → p ≡ q
after_word a b c p q f g e = perm_once p q f g (let h : perm_text p ≡ perm_text q = cc in h)

-- ---- named entries

id_once : (a b p q : ℕ) → is_id a ≡ true → is_id b ≡ true → is_perm p ≡ true → is_perm q ≡ true → decimal a ++ 58 ∷ perm_text p ≡ decimal b ++ 58 ∷ perm_text q → (a ≡ b) × (p ≡ q)
id_once a b p q f g h k e =
    let parts = fronts 58 (decimal a) (decimal b) (perm_text p) (perm_text q) (decimal_lacks 58 a refl (id_fits a f)) (decimal_lacks 58 b refl (id_fits b g)) e in
    (decimal_injective a b (id_fits a f) (id_fits b g) parts.0, perm_once p q h k parts.1)

-- `u:` or `g:`, an ID, a colon and the permission
abbrev spelt : ℕ → ℕ → ℕ → List ℕ
spelt first id perm = first ∷ 58 ∷ (decimal id ++ 58 ∷ perm_text perm)

abbrev letter_of : Who → ℕ
letter_of (User id) = 117
letter_of (Group id) = 103

named_is : (who : Who) (perm : ℕ) → who_text who ++ codes ":" ++ perm_text perm ≡ spelt (letter_of who) (id_of who) perm
named_is (User id) perm = ap (λ (t : List ℕ). 117 ∷ 58 ∷ t) (append_assoc (decimal id) (58 ∷ []) (perm_text perm))
named_is (Group id) perm = ap (λ (t : List ℕ). 103 ∷ 58 ∷ t) (append_assoc (decimal id) (58 ∷ []) (perm_text perm))

same_who : (a b : Who) → letter_of a ≡ letter_of b → id_of a ≡ id_of b → a ≡ b
same_who (User a) (User b) e f = ap User f
same_who (User a) (Group b) e f = absurd (let no : 117 ≢ 103 = omega arith in no e)
same_who (Group a) (User b) e f = absurd (let no : 103 ≢ 117 = omega arith in no e)
same_who (Group a) (Group b) e f = ap Group f

named_once : (x y : Named) → is_named x ≡ true → is_named y ≡ true → named_text x ≡ named_text y → x ≡ y
named_once x y f g e =
    let px = and_parts (is_id (id_of x.who)) (is_perm x.perm) f in
    let py = and_parts (is_id (id_of y.who)) (is_perm y.perm) g in
    let same : spelt (letter_of x.who) (id_of x.who) x.perm ≡ spelt (letter_of y.who) (id_of y.who) y.perm = sym (named_is x.who x.perm) ∙ e ∙ named_is y.who y.perm in
    let first : letter_of x.who ≡ letter_of y.who = cc in
    let rest : decimal (id_of x.who) ++ 58 ∷ perm_text x.perm ≡ decimal (id_of y.who) ++ 58 ∷ perm_text y.perm = cc in
    let both = id_once (id_of x.who) (id_of y.who) x.perm y.perm px.0 py.0 px.1 py.1 rest in
    let who : x.who ≡ y.who = same_who x.who y.who first both.0 in
    let perm : x.perm ≡ y.perm = both.1 in
    λ i. record { who = who i; perm = perm i }

names_once : (xs ys : List Named) → list_all is_named xs ≡ true → list_all is_named ys ≡ true → map named_text xs ≡ map named_text ys → xs ≡ ys
names_once [] [] f g e = refl
names_once [] (y ∷ ys) f g e = cc
names_once (x ∷ xs) [] f g e = cc
names_once (x ∷ xs) (y ∷ ys) f g e =
    let px = and_parts (is_named x) (list_all is_named xs) f in
    let py = and_parts (is_named y) (list_all is_named ys) g in
    let first : named_text x ≡ named_text y = cc in
    let rest : map named_text xs ≡ map named_text ys = cc in
    let same : x ≡ y = named_once x y px.0 py.0 first in
    let below : xs ≡ ys = names_once xs ys px.1 py.1 rest in
    cc

-- ---- the first letters of entries

abbrev begins : ℕ → List ℕ → Bool
begins c [] = false
begins c (b ∷ bs) = b == c

-- a named entry begins with `u` or `g`
abbrev is_name_text : List ℕ → Bool
is_name_text text = begins 117 text || begins 103 text

name_begins : (x : Named) → is_name_text (named_text x) ≡ true
name_begins x = rw (named_is x.who x.perm) (by_who x.who)
  where
    by_who : (who : Who) → is_name_text (spelt (letter_of who) (id_of who) x.perm) ≡ true
    by_who (User id) = refl
    by_who (Group id) = refl

names_begin : (xs : List Named) → list_all is_name_text (map named_text xs) ≡ true
names_begin [] = refl
names_begin (x ∷ xs) = and_from (is_name_text (named_text x)) (list_all is_name_text (map named_text xs)) (name_begins x) (names_begin xs)

abbrev opposite : (List ℕ → Bool) → List ℕ → Bool
opposite p text = not (p text)

mask_other : (p : List ℕ → Bool) → ((perm : ℕ) → not (p (codes "m::" ++ perm_text perm)) ≡ true) → (mask : Option ℕ) → list_all (opposite p) (mask_texts mask) ≡ true
mask_other p h None = refl
mask_other p h (Some perm) = and_from (not (p (codes "m::" ++ perm_text perm))) true (h perm) refl

default_other : (p : List ℕ → Bool) → ((text : List ℕ) → not (p (codes "d:" ++ text)) ≡ true) → (part : Option Part) → list_all (opposite p) (default_texts part) ≡ true
default_other p h None = refl
default_other p h (Some part) = each (part_texts part)
  where
    each : (texts : List (List ℕ)) → list_all (opposite p) (map (λ text. codes "d:" ++ text) texts) ≡ true
    each [] = refl
    each (text ∷ texts) = and_from (not (p (codes "d:" ++ text))) (list_all (opposite p) (map (λ t. codes "d:" ++ t) texts)) (h text) (each texts)

mask_begins : (mask : Option ℕ) → list_all (begins 109) (mask_texts mask) ≡ true
mask_begins None = refl
mask_begins (Some perm) = refl

mask_once : (a b : Option ℕ) → option_map_or is_perm a true ≡ true → option_map_or is_perm b true ≡ true → mask_texts a ≡ mask_texts b → a ≡ b
mask_once None None f g e = refl
mask_once None (Some q) f g e = cc
mask_once (Some p) None f g e = cc
mask_once (Some p) (Some q) f g e =
    let text : 109 ∷ 58 ∷ 58 ∷ perm_text p ≡ 109 ∷ 58 ∷ 58 ∷ perm_text q = cc in
    ap Some (after_word 109 58 58 p q f g text)

-- ---- whole parts

-- users, and then groups
ordered_parts : (xs : List Named) → is_ordered xs ≡ true → xs ≡ filter is_user xs ++ filter is_group xs
ordered_parts [] e = refl
ordered_parts (x ∷ xs) e =
    let parts = and_parts (list_all (is_before x) xs) (is_ordered xs) e in
    by_who parts.0 (ordered_parts xs parts.1) x.who x.perm refl
  where
    no_users : (id perm : ℕ) (ys : List Named) → list_all (is_before (record { who = Group id; perm = perm })) ys ≡ true → (filter is_user ys ≡ []) × (filter is_group ys ≡ ys)
    no_users id perm [] f = (refl, refl)
    no_users id perm (y ∷ ys) f =
        let parts = and_parts (is_before (record { who = Group id; perm = perm }) y) (list_all (is_before (record { who = Group id; perm = perm })) ys) f in
        by_name y.who y.perm refl parts.0 (no_users id perm ys parts.1)
      where
        by_name : (who : Who) (p : ℕ) → y ≡ record { who = who; perm = p } → is_before (record { who = Group id; perm = perm }) y ≡ true → (filter is_user ys ≡ []) × (filter is_group ys ≡ ys) → (filter is_user (y ∷ ys) ≡ []) × (filter is_group (y ∷ ys) ≡ y ∷ ys)
        by_name (User k) p q here below = absurd (let bad : false ≡ true = subst (λ (z : Named). is_before (record { who = Group id; perm = perm }) z ≡ true) q here in cc)
        by_name (Group k) p q here below = (subst (λ (z : Named). filter is_user (z ∷ ys) ≡ []) (sym q) below.0, subst (λ (z : Named). filter is_group (z ∷ ys) ≡ z ∷ ys) (sym q) (ap (λ (zs : List Named). record { who = Group k; perm = p } ∷ zs) below.1))

    by_who : list_all (is_before x) xs ≡ true → xs ≡ filter is_user xs ++ filter is_group xs → (who : Who) (perm : ℕ) → x ≡ record { who = who; perm = perm } → x ∷ xs ≡ filter is_user (x ∷ xs) ++ filter is_group (x ∷ xs)
    by_who after below (User id) perm q =
        subst (λ (z : Named). z ∷ xs ≡ filter is_user (z ∷ xs) ++ filter is_group (z ∷ xs)) (sym q) (ap (λ (zs : List Named). record { who = User id; perm = perm } ∷ zs) below)
    by_who after below (Group id) perm q =
        let none = no_users id perm xs (subst (λ (z : Named). list_all (is_before z) xs ≡ true) q after) in
        let groups : record { who = Group id; perm = perm } ∷ xs ≡ filter is_user xs ++ record { who = Group id; perm = perm } ∷ filter is_group xs = rw none.0 (ap (λ (zs : List Named). record { who = Group id; perm = perm } ∷ zs) (sym none.1)) in
        subst (λ (z : Named). z ∷ xs ≡ filter is_user (z ∷ xs) ++ filter is_group (z ∷ xs)) (sym q) groups

users_begin : (xs : List Named) → list_all (begins 117) (map named_text (filter is_user xs)) ≡ true
users_begin [] = refl
users_begin (x ∷ xs) = by_who (users_begin xs) x.who x.perm refl
  where
    by_who : list_all (begins 117) (map named_text (filter is_user xs)) ≡ true → (who : Who) (perm : ℕ) → x ≡ record { who = who; perm = perm } → list_all (begins 117) (map named_text (filter is_user (x ∷ xs))) ≡ true
    by_who below (User id) perm q = subst (λ (z : Named). list_all (begins 117) (map named_text (filter is_user (z ∷ xs))) ≡ true) (sym q) below
    by_who below (Group id) perm q = subst (λ (z : Named). list_all (begins 117) (map named_text (filter is_user (z ∷ xs))) ≡ true) (sym q) below

groups_begin : (xs : List Named) → list_all (begins 103) (map named_text (filter is_group xs)) ≡ true
groups_begin [] = refl
groups_begin (x ∷ xs) = by_who (groups_begin xs) x.who x.perm refl
  where
    by_who : list_all (begins 103) (map named_text (filter is_group xs)) ≡ true → (who : Who) (perm : ℕ) → x ≡ record { who = who; perm = perm } → list_all (begins 103) (map named_text (filter is_group (x ∷ xs))) ≡ true
    by_who below (User id) perm q = subst (λ (z : Named). list_all (begins 103) (map named_text (filter is_group (z ∷ xs))) ≡ true) (sym q) below
    by_who below (Group id) perm q = subst (λ (z : Named). list_all (begins 103) (map named_text (filter is_group (z ∷ xs))) ≡ true) (sym q) below

begins_once : (c d : ℕ) → (c == d) ≡ false → (text : List ℕ) → begins c text ≡ true → not (begins d text) ≡ true
begins_once c d other [] e = refl
begins_once c d other (b ∷ bs) e = let same : b ≡ c = grind (arith, nat_tests) in rw (same, other) refl

all_other : (c d : ℕ) → (c == d) ≡ false → (texts : List (List ℕ)) → list_all (begins c) texts ≡ true → list_all (opposite (begins d)) texts ≡ true
all_other c d other texts e = all_weaker (begins c) (opposite (begins d)) (begins_once c d other) texts e

grouped : (a b c d : List (List ℕ)) → a ++ b ++ c ++ d ≡ a ++ (b ++ (c ++ d))
grouped a b c d = append_assoc (a ++ b) c d ∙ append_assoc a b (c ++ d)

part_once : (p q : Part) → is_part p ≡ true → is_part q ≡ true → part_texts p ≡ part_texts q → p ≡ q
part_once p q f g e =
    let up = map named_text (filter is_user p.named) in
    let uq = map named_text (filter is_user q.named) in
    let gp = map named_text (filter is_group p.named) in
    let gq = map named_text (filter is_group q.named) in
    let a = (codes "u::" ++ perm_text p.owner) ∷ up in
    let a' = (codes "u::" ++ perm_text q.owner) ∷ uq in
    let b = (codes "g::" ++ perm_text p.group) ∷ gp in
    let b' = (codes "g::" ++ perm_text q.group) ∷ gq in
    let c = mask_texts p.mask in
    let c' = mask_texts q.mask in
    let d = (codes "o::" ++ perm_text p.other) ∷ [] in
    let d' = (codes "o::" ++ perm_text q.other) ∷ [] in
    let bb : list_all (begins 103) b ≡ true = groups_begin p.named in
    let bb' : list_all (begins 103) b' ≡ true = groups_begin q.named in
    let dd : list_all (begins 111) d ≡ true = refl in
    let dd' : list_all (begins 111) d' ≡ true = refl in
    let rest : list_all (opposite (begins 117)) (b ++ (c ++ d)) ≡ true = all_append (opposite (begins 117)) b (c ++ d) (all_other 103 117 refl b bb) (all_append (opposite (begins 117)) c d (all_other 109 117 refl c (mask_begins p.mask)) (all_other 111 117 refl d dd)) in
    let rest' : list_all (opposite (begins 117)) (b' ++ (c' ++ d')) ≡ true = all_append (opposite (begins 117)) b' (c' ++ d') (all_other 103 117 refl b' bb') (all_append (opposite (begins 117)) c' d' (all_other 109 117 refl c' (mask_begins q.mask)) (all_other 111 117 refl d' dd')) in
    let one = parted (begins 117) a a' (b ++ (c ++ d)) (b' ++ (c' ++ d')) (users_begin p.named) (users_begin q.named) rest rest' (sym (grouped a b c d) ∙ e ∙ grouped a' b' c' d') in
    let tail : list_all (opposite (begins 103)) (c ++ d) ≡ true = all_append (opposite (begins 103)) c d (all_other 109 103 refl c (mask_begins p.mask)) (all_other 111 103 refl d dd) in
    let tail' : list_all (opposite (begins 103)) (c' ++ d') ≡ true = all_append (opposite (begins 103)) c' d' (all_other 109 103 refl c' (mask_begins q.mask)) (all_other 111 103 refl d' dd') in
    let two = parted (begins 103) b b' (c ++ d) (c' ++ d') bb bb' tail tail' one.1 in
    let three = parted (begins 109) c c' d d' (mask_begins p.mask) (mask_begins q.mask) (all_other 111 109 refl d dd) (all_other 111 109 refl d' dd') two.1 in
    let fp = perms p f in
    let fq = perms q g in
    let owners : 117 ∷ 58 ∷ 58 ∷ perm_text p.owner ≡ 117 ∷ 58 ∷ 58 ∷ perm_text q.owner = let h = one.0 in cc in
    let groups : 103 ∷ 58 ∷ 58 ∷ perm_text p.group ≡ 103 ∷ 58 ∷ 58 ∷ perm_text q.group = let h = two.0 in cc in
    let others : 111 ∷ 58 ∷ 58 ∷ perm_text p.other ≡ 111 ∷ 58 ∷ 58 ∷ perm_text q.other = let h = three.1 in cc in
    let user_texts : up ≡ uq = let h = one.0 in cc in
    let group_texts : gp ≡ gq = let h = two.0 in cc in
    let np = part_names p f in
    let nq = part_names q g in
    let users : filter is_user p.named ≡ filter is_user q.named = names_once (filter is_user p.named) (filter is_user q.named) (all_filter is_named is_user p.named np) (all_filter is_named is_user q.named nq) user_texts in
    let grps : filter is_group p.named ≡ filter is_group q.named = names_once (filter is_group p.named) (filter is_group q.named) (all_filter is_named is_group p.named np) (all_filter is_named is_group q.named nq) group_texts in
    let named : p.named ≡ q.named = ordered_parts p.named fp.3 ∙ ap (λ (xs : List Named). xs ++ filter is_group p.named) users ∙ ap (λ (xs : List Named). filter is_user q.named ++ xs) grps ∙ sym (ordered_parts q.named fq.3) in
    let mask : p.mask ≡ q.mask = mask_once p.mask q.mask fp.4 fq.4 three.0 in
    let owner : p.owner ≡ q.owner = after_word 117 58 58 p.owner q.owner fp.0 fq.0 owners in
    let group : p.group ≡ q.group = after_word 103 58 58 p.group q.group fp.1 fq.1 groups in
    let other : p.other ≡ q.other = after_word 111 58 58 p.other q.other fp.2 fq.2 others in
    λ i. record { owner = owner i; group = group i; other = other i; named = named i; mask = mask i }
  where
    perms : (part : Part) → is_part part ≡ true → (is_perm part.owner ≡ true) × (is_perm part.group ≡ true) × (is_perm part.other ≡ true) × (is_ordered part.named ≡ true) × (option_map_or is_perm part.mask true ≡ true)
    perms part h =
        let o = is_perm part.owner in
        let g = is_perm part.group in
        let t = is_perm part.other in
        let n = list_all is_named part.named in
        let r = is_ordered part.named in
        let five = and_parts (o && g && t && n && r) (option_map_or is_perm part.mask true) h in
        let four = and_parts (o && g && t && n) r five.0 in
        let three = and_parts (o && g && t) n four.0 in
        let two = and_parts (o && g) t three.0 in
        let one = and_parts o g two.0 in
        (one.0, one.1, two.1, four.1, five.1)

strip : (ts us : List (List ℕ)) → map (λ text. codes "d:" ++ text) ts ≡ map (λ text. codes "d:" ++ text) us → ts ≡ us
strip [] [] e = refl
strip [] (u ∷ us) e = cc
strip (t ∷ ts) [] e = cc
strip (t ∷ ts) (u ∷ us) e =
    let first : 100 ∷ 58 ∷ t ≡ 100 ∷ 58 ∷ u = cc in
    let rest : map (λ text. codes "d:" ++ text) ts ≡ map (λ text. codes "d:" ++ text) us = cc in
    let same : t ≡ u = cc in
    let below : ts ≡ us = strip ts us rest in
    cc

default_once : (a b : Option Part) → option_map_or is_part a true ≡ true → option_map_or is_part b true ≡ true → default_texts a ≡ default_texts b → a ≡ b
default_once None None f g e = refl
default_once None (Some q) f g e = cc
default_once (Some p) None f g e = cc
default_once (Some p) (Some q) f g e = ap Some (part_once p q f g (strip (part_texts p) (part_texts q) e))

-- ---- whole ACLs

first_joined : (b : ℕ) (bs : List ℕ) (texts : List (List ℕ)) → (rest : List ℕ) × (join_with_byte 44 ((b ∷ bs) ∷ texts) ≡ b ∷ rest)
first_joined b bs [] = (bs, refl)
first_joined b bs (text ∷ texts) = (bs ++ 44 ∷ join_with_byte 44 (text ∷ texts), refl)

-- where no entry is a dash or empty, the field says the entries
abbrev IsSome : List ℕ → Type 0
IsSome text = (b : ℕ) × (bs : List ℕ) × (text ≡ b ∷ bs) × (b ≡ 45 → ⊥)

record AreEntries (texts : List (List ℕ)) : Type 0 where
  each : AllByRecursion IsSome texts
  apart : are_apart 44 texts ≡ true

joined_some : (text : List ℕ) (texts : List (List ℕ)) → IsSome text → (b : ℕ) × (rest : List ℕ) × (join_with_byte 44 (text ∷ texts) ≡ b ∷ rest) × (b ≡ 45 → ⊥)
joined_some text texts (b, bs, e, other) =
    let joined = first_joined b bs texts in
    (b, joined.0, ap (λ (t : List ℕ). join_with_byte 44 (t ∷ texts)) e ∙ joined.1, other)

texts_once : (ts us : List (List ℕ)) → AreEntries ts → AreEntries us → or_dash (join_with_byte 44 ts) ≡ or_dash (join_with_byte 44 us) → ts ≡ us
texts_once [] [] f g e = refl
texts_once [] (u ∷ us) f g e =
    let j = joined_some u us g.each.0 in
    absurd (let h : 45 ∷ [] ≡ j.0 ∷ j.1 = e ∙ ap or_dash j.2 in j.3 (let k : j.0 ≡ 45 = cc in k))
texts_once (t ∷ ts) [] f g e =
    let j = joined_some t ts f.each.0 in
    absurd (let h : j.0 ∷ j.1 ≡ 45 ∷ [] = sym (ap or_dash j.2) ∙ e in j.3 (let k : j.0 ≡ 45 = cc in k))
texts_once (t ∷ ts) (u ∷ us) f g e =
    let j = joined_some t ts f.each.0 in
    let k = joined_some u us g.each.0 in
    let a : or_dash (join_with_byte 44 (t ∷ ts)) ≡ join_with_byte 44 (t ∷ ts) = ap or_dash j.2 ∙ sym j.2 in
    let b : or_dash (join_with_byte 44 (u ∷ us)) ≡ join_with_byte 44 (u ∷ us) = ap or_dash k.2 ∙ sym k.2 in
    let same : join_with_byte 44 (t ∷ ts) ≡ join_with_byte 44 (u ∷ us) = sym a ∙ e ∙ b in
    sym (split_join 44 t ts f.apart) ∙ ap (slice_split (λ c. c == 44)) same ∙ split_join 44 u us g.apart

-- each entry of an ACL has a first letter
names_some : (xs : List Named) → AllByRecursion IsSome (map named_text xs)
names_some [] = tt
names_some (x ∷ xs) = (by_who x.who x.perm refl, names_some xs)
  where
    by_who : (who : Who) (perm : ℕ) → x ≡ record { who = who; perm = perm } → IsSome (named_text x)
    by_who (User id) perm q = subst (λ (z : Named). IsSome (named_text z)) (sym q) (117, 58 ∷ decimal id ++ codes ":" ++ perm_text perm, refl, omega arith)
    by_who (Group id) perm q = subst (λ (z : Named). IsSome (named_text z)) (sym q) (103, 58 ∷ decimal id ++ codes ":" ++ perm_text perm, refl, omega arith)

mask_some : (mask : Option ℕ) → AllByRecursion IsSome (mask_texts mask)
mask_some None = tt
mask_some (Some perm) = ((109, 58 ∷ 58 ∷ perm_text perm, refl, omega arith), tt)

d_some : (texts : List (List ℕ)) → AllByRecursion IsSome (map (λ text. codes "d:" ++ text) texts)
d_some [] = tt
d_some (text ∷ texts) = ((100, 58 ∷ text, refl, omega arith), d_some texts)

default_some : (part : Option Part) → AllByRecursion IsSome (default_texts part)
default_some None = tt
default_some (Some part) = d_some (part_texts part)

some_append : (ts us : List (List ℕ)) → AllByRecursion IsSome ts → AllByRecursion IsSome us → AllByRecursion IsSome (ts ++ us)
some_append [] us f g = g
some_append (t ∷ ts) us f g = (f.0, some_append ts us f.1 g)

no_comma : PassesEntries (λ b. not (b == 44))
no_comma = record { digit = digit_lacks 44 refl; dash = refl; colon = refl; user = refl; group = refl; mask = refl; other = refl; default_mark = refl; read = refl; write = refl; execute = refl }

are_entries : (acl : Acl) → is_acl acl ≡ true → AreEntries (access_texts acl.access ++ default_texts acl.default_part)
are_entries acl e = record {
  each = some_append (access_texts acl.access) (default_texts acl.default_part) (some_append (map named_text acl.access.named) (mask_texts acl.access.mask) (names_some acl.access.named) (mask_some acl.access.mask)) (default_some acl.default_part);
  apart = entries_pass (λ b. not (b == 44)) no_comma acl;
}

pub acl_once : (a b : Acl) → is_acl a ≡ true → is_acl b ≡ true → base_of a.access ≡ base_of b.access → acl_text a ≡ acl_text b → a ≡ b
acl_once a b f g base e =
    let na = map named_text a.access.named in
    let nb = map named_text b.access.named in
    let ma = mask_texts a.access.mask in
    let mb = mask_texts b.access.mask in
    let da = default_texts a.default_part in
    let db = default_texts b.default_part in
    let texts : na ++ ma ++ da ≡ nb ++ mb ++ db = texts_once (access_texts a.access ++ da) (access_texts b.access ++ db) (are_entries a f) (are_entries b g) e in
    let not_name : (text : List ℕ) → not (is_name_text (codes "d:" ++ text)) ≡ true = λ text. refl in
    let not_mask : (text : List ℕ) → not (begins 109 (codes "d:" ++ text)) ≡ true = λ text. refl in
    let other : (perm : ℕ) → not (is_name_text (codes "m::" ++ perm_text perm)) ≡ true = λ perm. refl in
    let one = parted is_name_text na nb (ma ++ da) (mb ++ db) (names_begin a.access.named) (names_begin b.access.named)
    (all_append (opposite is_name_text) ma da (mask_other is_name_text other a.access.mask) (default_other is_name_text not_name a.default_part))
    (all_append (opposite is_name_text) mb db (mask_other is_name_text other b.access.mask) (default_other is_name_text not_name b.default_part))
    (sym (append_assoc na ma da) ∙ texts ∙ append_assoc nb mb db) in
    let two = parted (begins 109) ma mb da db (mask_begins a.access.mask) (mask_begins b.access.mask) (default_other (begins 109) not_mask a.default_part) (default_other (begins 109) not_mask b.default_part) one.1 in
    let fa = and_parts (is_part a.access) (option_map_or is_part a.default_part true) f in
    let fb = and_parts (is_part b.access) (option_map_or is_part b.default_part true) g in
    let named : a.access.named ≡ b.access.named = names_once a.access.named b.access.named (part_names a.access fa.0) (part_names b.access fb.0) one.0 in
    let mask : a.access.mask ≡ b.access.mask = mask_once a.access.mask b.access.mask (mask_fits a.access fa.0) (mask_fits b.access fb.0) two.0 in
    let rest : a.default_part ≡ b.default_part = default_once a.default_part b.default_part fa.1 fb.1 two.1 in
    λ i. record {
      access = record { owner = (base i).owner; group = (base i).group; other = (base i).other; named = named i; mask = mask i };
      default_part = rest i;
    }
  where
    mask_fits : (part : Part) → is_part part ≡ true → option_map_or is_perm part.mask true ≡ true
    mask_fits part h =
        (and_parts (is_perm part.owner && is_perm part.group && is_perm part.other && list_all is_named part.named && is_ordered part.named) (option_map_or is_perm part.mask true) h).1
