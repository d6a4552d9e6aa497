mod Outlooks
mod SessionReplies
