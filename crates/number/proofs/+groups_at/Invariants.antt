-- `groups_at` ends: each call of itself allows one group fewer.
use Rattle.number.proofs.+groups_at.Given as goal

abbrev pub decreases-groups_at : goal.decreases-groups_at
decreases-groups_at l = l.m
