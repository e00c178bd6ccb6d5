use Rattle.std.proofs.Common.{◌++◌, codes}
use Rattle.ckr_service.specs.MadeStream.{line, numbered}
use Rattle.ckr_service.proofs.MadeStreams.{pushed_behind, pushed_last}
use Rattle.ckr_service.proofs.made_stream.push_tail.Goals as goal

pub returns : goal.returns
returns c =
    let out = c.args.out.now in
    let a = line (codes "/*") in
    let b = numbered (codes "//SYSUT2 DD DSN=GEN.D") c.args.job (codes ",DISP=(NEW,CATLG),SPACE=(80,8)") in
    let d = line (codes "//CHKDD DD DSN=&&CHK,SPACE=(256,4)") in
    let two = pushed_behind out c.push_line.new.out c.push_numbered.new.out a b c.in_ok-push_line.ensures c.in_ok-push_numbered.ensures in
    let three = pushed_behind out c.push_numbered.new.out c.push_line-2.new.out (a ++ b) d two c.in_ok-push_line-2.ensures in
    pushed_last c.push_line-3.result out c.push_line-2.new.out c.push_line-3.new.out ((a ++ b) ++ d) (line (codes "//")) three c.push_line-3.ensures
