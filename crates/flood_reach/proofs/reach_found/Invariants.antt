use lib.ListN.{length, take}
use Rattle.flood_start.specs.Slices.{Sizes}
use Rattle.flood_reach.specs.Reaches.{ReachedBy}
use Rattle.flood_reach.proofs.reach_found.Given as goal

abbrev pub invariant-loop-m : goal.invariant-loop-m
invariant-loop-m l =
    Sizes (length l.h) l.h l.status l.spill l.recv l.queue
    × ReachedBy l.h l.limit l.c (take l.m-index l.found) (record { status = l.initial.status; spill = l.initial.spill; recv = l.initial.recv }) l.waiting (record { status = l.status; spill = l.spill; recv = l.recv }) l.queue
