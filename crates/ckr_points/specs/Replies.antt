-- What a reply tells may be told: the code with which a job ended has a spelling.
use Rattle.std.specs.Prelude.{◌≤◌}
use Rattle.ckr_base.specs.CodeText.{number_of}
use Rattle.ckr_points.specs.declared.reply.How.{How}
use Rattle.ckr_points.specs.declared.reply.How.TheVariants.{Completed, Abended, Allocation}
use Rattle.ckr_points.specs.declared.reply.Reply.{Reply}
use Rattle.ckr_points.specs.declared.reply.Reply.TheVariants.{JobEnded}

abbrev pub HasCode : How → Type 0
HasCode Completed = Unit {0}
HasCode (Abended code rule) = number_of code ≤ 4095
HasCode (Allocation step dd cause) = Unit {0}

abbrev pub IsToldReply : Reply → Type 0
IsToldReply (JobEnded job how) = HasCode how
IsToldReply _ = Unit {0}
