-- Entries added one after another are the entries joined by commas.
use Rattle.std.proofs.Common.{◌≡◌, ℕ, List, [], ◌∷◌, ◌++◌, map, fold, Option, Some, None, refl, sym, ap, ◌∙◌, codes, append_assoc}
use Rattle.std.specs.List.{join_with_byte}
use Rattle.std.proofs.lemmas.List.Sums.{fold-append}
use Rattle.pv_acl.specs.declared.perm.Named.{Named}
use Rattle.pv_acl.specs.declared.perm.Who.{Who}
use Rattle.pv_acl.specs.declared.perm.Who.TheVariants.{User, Group}
use Rattle.pv_acl.specs.declared.part.Part.{Part}
use Rattle.pv_acl.specs.declared.part.Acl.{Acl}
use Rattle.pv_acl.specs.Texts.{named_text, acl_text, or_dash, access_texts, default_texts, mask_texts, who_text, perm_text, with_entry}

join_glue : (s t : List ℕ) (ts : List (List ℕ)) → join_with_byte 44 ((s ++ 44 ∷ t) ∷ ts) ≡ s ++ 44 ∷ join_with_byte 44 (t ∷ ts)
join_glue s t [] = refl
join_glue s t (u ∷ us) = append_assoc s (44 ∷ t) (44 ∷ join_with_byte 44 (u ∷ us))

join_from : (b : ℕ) (bs : List ℕ) (texts : List (List ℕ)) → fold with_entry (b ∷ bs) texts ≡ join_with_byte 44 ((b ∷ bs) ∷ texts)
join_from b bs [] = refl
join_from b bs (t ∷ ts) = join_from b (bs ++ 44 ∷ t) ts ∙ join_glue (b ∷ bs) t ts

-- texts of which the first is not empty, if there is one
abbrev pub BeginsWell : List (List ℕ) → Type 0
BeginsWell [] = Unit {0}
BeginsWell ([] ∷ texts) = ⊥
BeginsWell ((b ∷ bs) ∷ texts) = Unit {0}

-- added from nothing
pub join_is : (texts : List (List ℕ)) → BeginsWell texts → fold with_entry [] texts ≡ join_with_byte 44 texts
join_is [] well = refl
join_is ([] ∷ texts) well = absurd well
join_is ((b ∷ bs) ∷ texts) well = join_from b bs texts

begins_named : (who : Who) (perm : ℕ) (texts : List (List ℕ)) → BeginsWell ((who_text who ++ codes ":" ++ perm_text perm) ∷ texts)
begins_named (User id) perm texts = tt
begins_named (Group id) perm texts = tt

begins_acl : (named : List Named) (mask : Option ℕ) (part : Option Part) → BeginsWell (map named_text named ++ mask_texts mask ++ default_texts part)
begins_acl [] None None = tt
begins_acl [] None (Some part) = tt
begins_acl [] (Some perm) part = tt
begins_acl (x ∷ xs) mask part = begins_named x.who x.perm (map named_text xs ++ mask_texts mask ++ default_texts part)

-- the entries of both parts, one after another
pub printed_is : (acl : Acl) (s t : List ℕ) → s ≡ fold with_entry [] (access_texts acl.access) → t ≡ fold with_entry s (default_texts acl.default_part) → or_dash t ≡ acl_text acl
printed_is acl s t es et =
    ap or_dash (et ∙ ap (λ (u : List ℕ). fold with_entry u (default_texts acl.default_part)) es
    ∙ sym (fold-append with_entry [] (access_texts acl.access) (default_texts acl.default_part))
    ∙ join_is (access_texts acl.access ++ default_texts acl.default_part) (begins_acl acl.access.named acl.access.mask acl.default_part))
