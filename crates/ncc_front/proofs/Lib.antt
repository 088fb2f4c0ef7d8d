mod Completing
mod OneJudgement
