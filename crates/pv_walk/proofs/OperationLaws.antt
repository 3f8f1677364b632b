-- Laws of operations on one object, for the crates above.
use Rattle.std.specs.Prelude.{◌≡◌, ℕ, true, false, not, ◌&&◌, List, ◌∷◌, ◌++◌, take, Option, Some, None, option_map}
use Rattle.std.specs.List.{list_all, list_any}
use Rattle.std.proofs.Common.{ap, sym, ◌∙◌, refl}
use Rattle.pv_path.specs.Paths.{Path}
use Rattle.pv_steps.specs.Trees.{Places}
use Rattle.pv_steps.specs.Same.{object_states}
use Rattle.pv_steps.specs.declared.object.Object.{Object}
use Rattle.pv_steps.specs.Objects.{object_state, stamped}
use Rattle.pv_walk.specs.declared.object_state.ObjectState.{ObjectState}
use Rattle.pv_walk.specs.declared.operation.Test.{Test}
use Rattle.pv_walk.specs.declared.operation.Operation.{Operation}
use Rattle.pv_walk.specs.declared.operation.Operation.TheVariants.{Renew, Erase}
use Rattle.pv_walk.specs.Nodes.{object_state_of, object_states_of}
use Rattle.pv_walk.specs.Operations.{run, stays}
use Rattle.pv_walk.specs.Reasons.{is_adjusting, sets_nothing, is_make, is_erasure, makes_late, has_late_make, IsRepeatable}
use Rattle.pv_walk.proofs.Repeating as repeating

-- objects that are the same except for their timestamps are the same without them
pub object_state_of-same : (a b : Object) → object_state a ≡ object_state b → object_state_of a ≡ object_state_of b
object_state_of-same a b e = ap object_state_of e

pub object_state-same : (a b : Object) → object_state_of a ≡ object_state_of b → object_state a ≡ object_state b
object_state-same a b e = λ i. record {
  node = record {
    kind = (e i).body.kind;
    special = (e i).metadata.special;
    uid = (e i).metadata.uid;
    gid = (e i).metadata.gid;
    acl = (e i).metadata.acl;
    stamps = stamped 0;
    major = (e i).body.major;
    minor = (e i).body.minor;
    attrs = (e i).metadata.attrs;
    letters = (e i).metadata.letters;
  };
  payload = (e i).body.payload;
}

-- the object at a path is compared without timestamps in one way
pub object_states_of-same : (t u : Places) (q : Path) → object_states t q ≡ object_states u q → object_states_of t q ≡ object_states_of u q
object_states_of-same t u q e = sym (again (t q)) ∙ ap (option_map object_state_of) e ∙ again (u q)
  where
    again : (o : Option Object) → option_map object_state_of (option_map object_state o) ≡ option_map object_state_of o
    again None = refl
    again (Some x) = refl

pub object_states-same : (t u : Places) (q : Path) → object_states_of t q ≡ object_states_of u q → object_states t q ≡ object_states u q
object_states-same t u q e = by (t q) (u q) e
  where
    by : (a b : Option Object) → option_map object_state_of a ≡ option_map object_state_of b → option_map object_state a ≡ option_map object_state b
    by None None e = refl
    by None (Some y) e = let no : None ≡ Some (object_state_of y) = e in cc
    by (Some x) None e = let no : Some (object_state_of x) ≡ None = e in cc
    by (Some x) (Some y) e = let same : object_state_of x ≡ object_state_of y = cc in ap Some (object_state-same x y same)

-- the operations of two lists, one after the other
pub run-append : (xs ys : List Operation) (b : Option ObjectState) → run (xs ++ ys) b ≡ run ys (run xs b)
run-append = repeating.run-append

-- the first of operations that nothing is said against; nothing is said against them, either, where no erasure is there
pub repeatable-front : (xs ys : List Operation) → list_any is_erasure (xs ++ ys) ≡ false → IsRepeatable (xs ++ ys) → IsRepeatable xs
repeatable-front = repeating.repeatable-front

-- with an erasure operations leave the same whatever was there, and no make is late
pub erased-alike : (xs : List Operation) → list_any is_erasure xs ≡ true → (a b : Option ObjectState) → run xs a ≡ run xs b
erased-alike = repeating.erased-alike

pub erasing-quiet : (xs : List Operation) → list_any is_erasure xs ≡ true → has_late_make xs ≡ false
erasing-quiet xs e = ap (λ t. not t && makes_late xs) e

-- operations that nothing is said against, done twice, are done once
pub run-twice : (xs : List Operation) → IsRepeatable xs → (b : Option ObjectState) → run xs (run xs b) ≡ run xs b
run-twice = repeating.run-twice

-- the first operations of a list are absorbed by the whole list
pub absorbed : (xs : List Operation) (k : ℕ) (b : Option ObjectState) → IsRepeatable xs → run xs (run (take k xs) b) ≡ run xs b
absorbed = repeating.absorbed

-- where an object fails the test of the first make, the list ends as from nothing
pub from_the_gap : (idle xs : List Operation) (test : Test) (new b : ObjectState) → list_all (is_adjusting sets_nothing) idle ≡ true → stays test new.body b.body ≡ false
    → run (idle ++ Renew test new ∷ xs) (Some b) ≡ run (idle ++ Renew test new ∷ xs) None
from_the_gap = repeating.from_the_gap

-- and where it makes nothing it ends with nothing
pub erased : (xs ys : List Operation) (b : Option ObjectState) → list_any is_make ys ≡ false → run (xs ++ Erase ∷ ys) b ≡ None
erased = repeating.erased
