use Rattle.ckr_desk.proofs.Openings.Answers.{not_formatted, other_version, bad_header}
use Rattle.ckr_desk.proofs.opening.layout_of.Goals as goal

pub returns-in-Err-NotFormatted-clause-cause : goal.returns-in-Err-NotFormatted-clause-cause
returns-in-Err-NotFormatted-clause-cause g c = λ told. not_formatted (g.D.Disk.content c.args.disk.now) (g.D.Disk.size c.args.disk.now) c.in-Err-NotFormatted.field-0 c.in-Err-NotFormatted.field-0-is (c.in-Err-NotFormatted.ensures.exact told)

pub returns-in-Err-Version-clause-cause : goal.returns-in-Err-Version-clause-cause
returns-in-Err-Version-clause-cause g c = λ told. other_version (g.D.Disk.content c.args.disk.now) (g.D.Disk.size c.args.disk.now) c.in-Err-Version.version c.in-Err-Version.field-0 c.in-Err-Version.field-0-is (c.in-Err-Version.ensures.exact told)

pub returns-in-Err-BadHeader-clause-cause : goal.returns-in-Err-BadHeader-clause-cause
returns-in-Err-BadHeader-clause-cause g c = λ told. bad_header (g.D.Disk.content c.args.disk.now) (g.D.Disk.size c.args.disk.now) c.in-Err-BadHeader.offset c.in-Err-BadHeader.field-0 c.in-Err-BadHeader.field-0-is (c.in-Err-BadHeader.ensures.exact told)
