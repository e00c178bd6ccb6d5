use Rattle.std.proofs.Common.{◌<◌, ap, arith, length, sym}
use Rattle.ckr_desk_turn.specs.Mounts.{Attempt}
use Rattle.ckr_desk_turn.specs.MachineRoom.{behind_attempt}
use Rattle.ckr_desk_turn.proofs.MachineRooms.{among-at, so_far-all, so_far-more, so_far-mounted, so_far-none, so_far-stops, there-at}
use Rattle.ckr_desk_turn.proofs.machine_room.MachineRoom.mount_all.Goals as goal

pub loop-volume-init : goal.loop-volume-init
loop-volume-init g c = so_far-none c.args.layout.now c.args.volumes.now c.args.self.now c.requires.fit

pub mount-requires-clause-there : goal.mount-requires-clause-there
mount-requires-clause-there g c κs within = there-at c.args.layout.now c.args.volumes.now c.loop-volume.volume-index c.requires.there (omega arith)

pub mount-requires-clause-among : goal.mount-requires-clause-among
mount-requires-clause-among g c κs within = among-at c.args.volumes.now c.loop-volume.volume-index (omega arith)

pub mount-requires-clause-fit : goal.mount-requires-clause-fit
mount-requires-clause-fit g c κs within = c.loop-volume.invariant.fit

pub loop-volume-preserved : goal.loop-volume-preserved
loop-volume-preserved g c =
    let i = c.loop-volume.volume-index in
    let inside : i < length c.args.volumes.now = omega arith in
    so_far-more c.args.layout.now c.args.volumes.now c.args.self.now c.loop-volume.self i c.loop-volume.invariant c.mount.new.self c.mount.result inside c.mount.ensures.asked c.in-Taken.is
    (c.mount.ensures.mounted c.in-Taken.is)

pub returns-clause-taking : goal.returns-clause-taking
returns-clause-taking g c =
    sym (ap (λ (attempt : Attempt). attempt.taking) (so_far-all c.args.layout.now c.args.volumes.now c.args.self.now c.loop-volume.self c.loop-volume.volume-index c.loop-volume.invariant (omega arith) c.requires.fit))

pub returns-clause-behind : goal.returns-clause-behind
returns-clause-behind g c =
    sym (ap behind_attempt (so_far-all c.args.layout.now c.args.volumes.now c.args.self.now c.loop-volume.self c.loop-volume.volume-index c.loop-volume.invariant (omega arith) c.requires.fit))

pub returns-clause-mounted : goal.returns-clause-mounted
returns-clause-mounted g c taken = so_far-mounted c.args.layout.now c.args.volumes.now c.args.self.now c.loop-volume.self c.loop-volume.volume-index c.loop-volume.invariant (omega arith)

pub returns-in_default-clause-taking : goal.returns-in_default-clause-taking
returns-in_default-clause-taking g c =
    let i = c.loop-volume.volume-index in
    let inside : i < length c.args.volumes.now = omega arith in
    sym (ap (λ (attempt : Attempt). attempt.taking)
    (so_far-stops c.args.layout.now c.args.volumes.now c.args.self.now c.loop-volume.self i c.loop-volume.invariant c.mount.new.self c.mount.result inside c.mount.ensures.asked c.requires.fit c.in_default.not-Taken))

pub returns-in_default-clause-behind : goal.returns-in_default-clause-behind
returns-in_default-clause-behind g c =
    let i = c.loop-volume.volume-index in
    let inside : i < length c.args.volumes.now = omega arith in
    sym (ap behind_attempt
    (so_far-stops c.args.layout.now c.args.volumes.now c.args.self.now c.loop-volume.self i c.loop-volume.invariant c.mount.new.self c.mount.result inside c.mount.ensures.asked c.requires.fit c.in_default.not-Taken))

pub returns-in_default-clause-mounted : goal.returns-in_default-clause-mounted
returns-in_default-clause-mounted g c taken = absurd (c.in_default.not-Taken taken)
