use Rattle.std.proofs.Common.{◌++◌, ◌≤◌, length, arith}
use Rattle.base64.specs.GeneralPurpose.{encode_of}
use Rattle.base64.specs.Engines.{standard}
use Rattle.pv_image.proofs.Contents.{encoded_more}
use Rattle.pv_image.proofs.write.add_base64.Goals as goal

pub loop-rest-preserved : goal.loop-rest-preserved
loop-rest-preserved c =
    let long : 768 ≤ length c.loop-rest.rest.now = omega arith in
    encoded_more (c.args.output.now.items ++ encode_of standard c.args.content.now) c.loop-rest.output.items c.add_encoded.new.output.items c.loop-rest.rest.now c.split_at.result.0.now c.split_at.result.1.now long c.loop-rest.invariant
    c.split_at.ensures.front c.split_at.ensures.back c.in_ok-add_encoded.ensures
