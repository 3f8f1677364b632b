use Rattle.std.proofs.Common.{◌≡◌, true, sym, arith, refl, []}
use Rattle.pv_image.specs.Images.{Before, InFacts, Header, Note, cut_off}
use Rattle.pv_image.proofs.Stages.{bad_header, cut_length, leads_on, notes_more}
use Rattle.pv_image.proofs.reader.read_header.Goals as goal

pub returns-in-Some-read_version-clause-leads : goal.returns-in-Some-read_version-clause-leads
returns-in-Some-read_version-clause-leads c =
    let version = c.in-Some-read_version.version in
    leads_on 1 Before c.args.bytes.now c.loop-text.number Before (InFacts version []) c.in-Some.text.now c.loop-text.rest.now c.in-Some.after.now (Header version) c.loop-text.invariant.leads c.in-Some.ensures.some
    c.in-Some-read_version.ensures.1 refl

pub returns-in-None-2-clause-err : goal.returns-in-None-2-clause-err
returns-in-None-2-clause-err c =
    c.loop-text.invariant.leads _ (bad_header c.loop-text.number c.loop-text.rest.now c.in-Some.text.now c.in-Some.after.now c.in-Some.ensures.some
    (λ version. c.in-None-2.ensures version tt) (sym c.if-is_note.ensures))

pub loop-text-preserved : goal.loop-text-preserved
loop-text-preserved c =
    let note : _ ≡ true = sym c.if-is_note.ensures in
    record {
      leads = leads_on 1 Before c.args.bytes.now c.loop-text.number Before Before c.in-Some.text.now c.loop-text.rest.now c.in-Some.after.now Note c.loop-text.invariant.leads c.in-Some.ensures.some note refl;
      notes = notes_more c.args.bytes.now c.loop-text.rest.now c.in-Some.text.now c.in-Some.after.now c.loop-text.invariant.notes c.in-Some.ensures.some note;
      small = let shorter = cut_length c.loop-text.rest.now c.in-Some.text.now c.in-Some.after.now c.in-Some.ensures.some in let so_far = c.loop-text.invariant.small in omega arith;
    }

pub returns-clause-err : goal.returns-clause-err
returns-clause-err c = c.loop-text.invariant.leads _ (cut_off c.in_default.ensures.none refl)
