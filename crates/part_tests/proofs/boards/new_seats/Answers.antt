use Rattle.part_tests.proofs.boards.new_seats.Goals as goal

pub two_seats-requires-clause-seats : goal.two_seats-requires-clause-seats
two_seats-requires-clause-seats g c κs within k d inside = (c.requires.seats k d inside).0
