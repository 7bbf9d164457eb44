-- Document 01, "The bench program": what is done with a record.

-- nothing, since it is bad; a fresh account; something on the rings; or a call on the account
pub data Way : Type 0 where
  Bad : Way
  Fresh : Way
  Card : Way
  Account : Way
