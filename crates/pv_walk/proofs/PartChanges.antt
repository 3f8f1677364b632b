-- What the entries of lines make of one part of an ACL, attribute by attribute.
use Rattle.std.specs.Prelude.{◌≡◌, false, List, [], ◌∷◌, fold}
use Rattle.std.proofs.Common.{refl, ◌∙◌, inl, inr}
use Rattle.std.specs.List.{list_any}
use Rattle.std.proofs.lemmas.Bool.{or_parts}
use Rattle.pv_acl.specs.declared.line.Entry.{Entry}
use Rattle.pv_acl.specs.declared.line.Entry.TheVariants as entry
use Rattle.pv_acl.specs.declared.line.How.{How}
use Rattle.pv_acl.specs.declared.line.How.TheVariants.{Replace, Add}
use Rattle.pv_acl.specs.declared.part.Part.{Part}
use Rattle.pv_acl.specs.Applying.{put_entry, kept, part_after}
use Rattle.pv_walk.specs.Reasons.{is_base}
use Rattle.pv_walk.proofs.Settling.{Settled, settled_then, settled_twice, IsChained}
use Rattle.pv_walk.proofs.Cutting.{Base}
use Rattle.pv_walk.proofs.Puts.{Puts, puts_then, puts_twice}

-- a change of a part that gives each attribute one value or leaves it, and puts named entries over others
pub record IsPlain (f : Part → Part) : Type 0 where
  pub owner : Settled (λ (p : Part). p.owner) f
  pub group : Settled (λ (p : Part). p.group) f
  pub other : Settled (λ (p : Part). p.other) f
  pub named : Puts (λ (p : Part). p.named) f
  pub mask : Settled (λ (p : Part). p.mask) f

pub same_part : (a b : Part) → a.owner ≡ b.owner → a.group ≡ b.group → a.other ≡ b.other → a.named ≡ b.named → a.mask ≡ b.mask → a ≡ b
same_part a b o g t n m = λ i. record { owner = o i; group = g i; other = t i; named = n i; mask = m i }

pub plain_twice : (f : Part → Part) → IsPlain f → (p : Part) → f (f p) ≡ f p
plain_twice f h p =
    same_part (f (f p)) (f p) (settled_twice (λ (p : Part). p.owner) f h.owner p) (settled_twice (λ (p : Part). p.group) f h.group p) (settled_twice (λ (p : Part). p.other) f h.other p)
    (puts_twice (λ (p : Part). p.named) f h.named p) (settled_twice (λ (p : Part). p.mask) f h.mask p)

pub plain-chained : IsChained IsPlain
plain-chained = record {
  none = record { owner = inl (λ a. refl); group = inl (λ a. refl); other = inl (λ a. refl); named = inl ([], λ a. refl); mask = inl (λ a. refl) };
  both = λ f g p q. record {
    owner = settled_then (λ (p : Part). p.owner) f g p.owner q.owner;
    group = settled_then (λ (p : Part). p.group) f g p.group q.group;
    other = settled_then (λ (p : Part). p.other) f g p.other q.other;
    named = puts_then (λ (p : Part). p.named) f g p.named q.named;
    mask = settled_then (λ (p : Part). p.mask) f g p.mask q.mask;
  };
}

plain-put_entry : (e : Entry) → IsPlain (λ p. put_entry p e)
plain-put_entry (entry.Owner perm) = record { owner = inr (λ a b. refl); group = inl (λ a. refl); other = inl (λ a. refl); named = inl ([], λ a. refl); mask = inl (λ a. refl) }
plain-put_entry (entry.Group perm) = record { owner = inl (λ a. refl); group = inr (λ a b. refl); other = inl (λ a. refl); named = inl ([], λ a. refl); mask = inl (λ a. refl) }
plain-put_entry (entry.Other perm) = record { owner = inl (λ a. refl); group = inl (λ a. refl); other = inr (λ a b. refl); named = inl ([], λ a. refl); mask = inl (λ a. refl) }
plain-put_entry (entry.Named named) = record { owner = inl (λ a. refl); group = inl (λ a. refl); other = inl (λ a. refl); named = inl (named ∷ [], λ a. refl); mask = inl (λ a. refl) }
plain-put_entry (entry.Mask perm) = record { owner = inl (λ a. refl); group = inl (λ a. refl); other = inl (λ a. refl); named = inl ([], λ a. refl); mask = inr (λ a b. refl) }

plain-kept : (how : How) → IsPlain (kept how)
plain-kept Replace = record { owner = inl (λ a. refl); group = inl (λ a. refl); other = inl (λ a. refl); named = inr (λ a b. refl); mask = inr (λ a b. refl) }
plain-kept Add = plain-chained.none

plain-entries : (es : List Entry) → IsPlain (λ p. fold put_entry p es)
plain-entries [] = plain-chained.none
plain-entries (e ∷ es) = plain-chained.both (λ p. put_entry p e) (λ p. fold put_entry p es) (plain-put_entry e) (plain-entries es)

-- entries of a line
pub plain-part_after : (how : How) (es : List Entry) → IsPlain (λ p. part_after how p es)
plain-part_after how [] = plain-chained.none
plain-part_after how (e ∷ es) = plain-chained.both (kept how) (λ p. fold put_entry p (e ∷ es)) (plain-kept how) (plain-entries (e ∷ es))

-- ---- the base entries together

abbrev pub base : Part → Base
base p = record { owner = p.owner; group = p.group; other = p.other }

-- entries of a line of which none is a base entry leave the base entries
base-put_entry : (e : Entry) → is_base e ≡ false → (p : Part) → base (put_entry p e) ≡ base p
base-put_entry (entry.Owner perm) h p = cc
base-put_entry (entry.Group perm) h p = cc
base-put_entry (entry.Other perm) h p = cc
base-put_entry (entry.Named named) h p = refl
base-put_entry (entry.Mask perm) h p = refl

base-entries : (es : List Entry) → list_any is_base es ≡ false → (p : Part) → base (fold put_entry p es) ≡ base p
base-entries [] h p = refl
base-entries (e ∷ es) h p =
    let parts = or_parts (is_base e) (list_any is_base es) h in
    base-entries es parts.1 (put_entry p e) ∙ base-put_entry e parts.0 p

base-kept : (how : How) (p : Part) → base (kept how p) ≡ base p
base-kept Replace p = refl
base-kept Add p = refl

pub base-part_after : (how : How) (es : List Entry) → list_any is_base es ≡ false → (p : Part) → base (part_after how p es) ≡ base p
base-part_after how [] h p = refl
base-part_after how (e ∷ es) h p = base-entries (e ∷ es) h (kept how p) ∙ base-kept how p
