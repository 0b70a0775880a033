-- What is told of a retirement, in other words.
use Rattle.live_callbacks.proofs.Cited.{Bool, ℕ, Gv, ObjectId, LiveEvent, Log}
use Rattle.live_callbacks.specs.Retiring.{Queues}

pub queues_as : (qsbr : Bool) (allows : Log → LiveEvent → Type 0) (is is' : Log → Type 0) (o : ObjectId) (q n : ℕ) (code : Gv) (log : Log) → ((before : Log) → is before → is' before) → Queues qsbr allows is o q n code log → Queues qsbr allows is' o q n code log
queues_as qsbr allows is is' o q n code log later x = record { before = x.before; at = later x.before x.at; within = x.within; retired = x.retired; id = x.id; is = x.is; wrote = x.wrote; last = x.last; run = x.run }
