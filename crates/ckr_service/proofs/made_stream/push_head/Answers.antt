use Rattle.std.proofs.Common.{◌++◌, codes}
use Rattle.ckr_service.specs.MadeStream.{line, numbered}
use Rattle.ckr_service.proofs.MadeStreams.{pushed_behind, pushed_last}
use Rattle.ckr_service.proofs.made_stream.push_head.Goals as goal

pub returns : goal.returns
returns c =
    let out = c.args.out.now in
    let a = numbered (codes "//G") c.args.job (codes " JOB RD=R") in
    let b = line (codes "//S1 EXEC PGM=COPY,PARM='CHK=3'") in
    let two = pushed_behind out c.push_numbered.new.out c.push_line.new.out a b c.in_ok-push_numbered.ensures c.in_ok-push_line.ensures in
    pushed_last c.push_line-2.result out c.push_line.new.out c.push_line-2.new.out (a ++ b) (line (codes "//SYSUT1 DD *")) two c.push_line-2.ensures
