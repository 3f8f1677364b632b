use Rattle.std.proofs.lemmas.Result.{IfErr-at_err, IfErr-weaker}
use Rattle.std.proofs.Common.{refl, ◌≡◌, ◌≢◌}
use Rattle.pv_image.specs.Images.{Before, HasImageFault}
use Rattle.pv_image.specs.Progress.{Fails}
use Rattle.pv_image.specs.declared.image_fault.ImageFault.{ImageFault}
use Rattle.pv_image.specs.declared.image_fault.ImageFault.TheVariants as fault
use Rattle.pv_image.proofs.ImageLaws.{answered_fault, refused_image}
use Rattle.pv_image.proofs.Stages.{has_fails, never_long}
use Rattle.pv_image.proofs.reader.read_image.Goals as goal

pub returns-clause-fault : goal.returns-clause-fault
returns-clause-fault c =
    IfErr-weaker c.read_whole.result (Fails 1 Before c.args.bytes.now) (λ (f : ImageFault). f ≢ fault.Memory → HasImageFault c.args.bytes.now f) (λ f h other. has_fails 1 Before c.args.bytes.now f h other) c.read_whole.ensures.err

pub returns-clause-bounded : goal.returns-clause-bounded
returns-clause-bounded c = λ e.
    never_long 1 Before c.args.bytes.now fault.TooLong (IfErr-at_err (Fails 1 Before c.args.bytes.now) e c.read_whole.ensures.err) refl

pub returns-clause-accepts : goal.returns-clause-accepts
returns-clause-accepts c = λ facts files image.
    IfErr-weaker c.read_whole.result (Fails 1 Before c.args.bytes.now) (λ (f : ImageFault). f ≡ fault.Memory) (λ f h. refused_image c.args.bytes.now facts files f image h) c.read_whole.ensures.err

pub returns-clause-refuses : goal.returns-clause-refuses
returns-clause-refuses c = λ f h.
    answered_fault c.args.bytes.now f c.read_whole.result (λ image. image.facts) (λ image. image.tree.files) h c.read_whole.ensures.image c.read_whole.ensures.err
