use Rattle.tracker.proofs.first.+add_jobs.Given as goal

-- the jobs that are left to add
abbrev pub decreases-add_jobs : goal.decreases-add_jobs
decreases-add_jobs l = l.count
