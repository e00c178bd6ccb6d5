use Rattle.ckr_points_library.proofs.volume_room.+first_with_room.Given as goal

abbrev pub decreases-first_with_room : goal.decreases-first_with_room
decreases-first_with_room l = l.count
