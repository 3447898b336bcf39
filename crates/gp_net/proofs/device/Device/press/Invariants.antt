use Rattle.gp_net.proofs.device.Device.press.Given as goal

abbrev pub ghosts-sealed : goal.ghosts-sealed
ghosts-sealed a = record { name = a.blank.name; parts = a.blank.parts }
